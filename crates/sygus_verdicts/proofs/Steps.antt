-- One more statement is judged.
use Rattle.std.proofs.Common.{refl, ◌≡◌, ◌+◌, ◌++◌, ◌∙◌, sym, ap, suc, map, zero-add, List, [], ◌∷◌, ℕ, length, take, Some, None, arith, append_assoc, append-nil, length-append, subst}
use Rattle.std.specs.Prelude.{Option, slice_get}
use Rattle.std.specs.Option.{option_map}
use Rattle.std.specs.Io.KnownBytes.{Appends}
use Rattle.std.proofs.Math.Seq.{take-length}
use Rattle.std.proofs.lemmas.List.{length-map, map-append}
use Rattle.std.proofs.lemmas.Option.{slice_get-map}
use Rattle.sy_io.proofs.Streams.{appended_more}
use Rattle.sy_text_items.specs.Items.{Item}
use Rattle.sy_terms.specs.Expr.{Expr}
use Rattle.sy_terms.specs.declared.theory.Theory.{Ghosts as TheoryOf}
use Rattle.sy_grammar_base.specs.Questions.{Question, question_of}
use Rattle.sy_query_limits.specs.declared.Limits.{Limits}
use Rattle.sy_reply.specs.Statements.{Statement, statement_of}
use Rattle.sy_scope_causes.specs.declared.titles.Titles.{Titles}
use Rattle.sygus_verdicts.specs.Judged.{AreJudged, IsJudged}
use Rattle.sygus_verdicts.specs.Lines.{verdict_line, verdict_lines, WritesMostLines}
use Rattle.sygus_verdicts.specs.Clauses.{AreJudgedFor, JudgesNext, verdict_for, verdicts_for}
use Rattle.sygus_verdicts.specs.Verdicts.{Verdict, verdict_on}
use Rattle.sygus_verdicts.specs.declared.verdicts.Claims.{Claims}
use Rattle.sygus_verdicts.specs.declared.judge.Judge.{Ghosts as JudgeOf}

pub appended_nothing : (before : Option (List ℕ)) → Appends before before []
appended_nothing None = tt
appended_nothing (Some bytes) = sym (append-nil bytes)

-- ---- lines

pub lines-none : (titles : Titles) (check : ℕ) → verdict_lines titles check [] ≡ []
unfolding verdict_lines
lines-none titles check = refl

pub lines-more : (titles : Titles) (check : ℕ) (verdicts : List Verdict) (verdict : Verdict) → verdict_lines titles check (verdicts ++ verdict ∷ []) ≡ verdict_lines titles check verdicts ++ verdict_line titles (length verdicts + check) verdict
unfolding verdict_lines
lines-more titles check [] verdict =
    append-nil (verdict_line titles check verdict) ∙ ap (λ (n : ℕ). verdict_line titles n verdict) (sym (zero-add check))
lines-more titles check (v ∷ rest) verdict =
    let e : length rest + (check + 1) ≡ suc (length rest) + check = omega arith in
    ap (λ (bytes : List ℕ). verdict_line titles check v ++ bytes) (lines-more titles (check + 1) rest verdict)
    ∙ sym (append_assoc (verdict_line titles check v) (verdict_lines titles (check + 1) rest) (verdict_line titles (length rest + (check + 1)) verdict))
    ∙ ap (λ (n : ℕ). (verdict_line titles check v ++ verdict_lines titles (check + 1) rest) ++ verdict_line titles n verdict) e

-- the verdicts on one answer more
pub verdicts-more : {A : Type 0} (verdict : A → Verdict) (answers new : List A) (answer : A) → new ≡ answers ++ answer ∷ [] → map verdict new ≡ map verdict answers ++ verdict answer ∷ []
verdicts-more verdict answers new answer more = ap (map verdict) more ∙ map-append verdict answers (answer ∷ [])

take-past : (xs ys : List ℕ) (n : ℕ) → take (length xs + n) (xs ++ ys) ≡ xs ++ take n ys
take-past [] ys n = ap (λ (k : ℕ). take k ys) (zero-add n)
take-past (x ∷ xs) ys n =
    let e : suc (length xs) + n ≡ suc (length xs + n) = omega arith in
    ap (λ (k : ℕ). take k (x ∷ (xs ++ ys))) e ∙ ap (λ (zs : List ℕ). x ∷ zs) (take-past xs ys n)

-- the line of the last verdict was cut off
pub most-more : (titles : Titles) (verdicts : List Verdict) (verdict : Verdict) (count : ℕ) (before between after : Option (List ℕ)) → Appends before between (verdict_lines titles 1 verdicts)
    → Appends between after (take count (verdict_line titles (length verdicts + 1) verdict)) → WritesMostLines titles (verdicts ++ verdict ∷ []) before after
most-more titles verdicts verdict count before between after written begun = record {
  earlier = verdicts;
  last = verdict ∷ [];
  split = refl;
  one = omega arith;
  count = length (verdict_lines titles 1 verdicts) + count;
  whole = omega arith;
  written = rw (lines-more titles 1 verdicts verdict, take-past (verdict_lines titles 1 verdicts) (verdict_line titles (length verdicts + 1) verdict) count) (appended_more _ _ _ _ _ written begun);
}

-- all lines were written
pub most-all : (titles : Titles) (verdicts : List Verdict) (before after : Option (List ℕ)) → Appends before after (verdict_lines titles 1 verdicts) → WritesMostLines titles verdicts before after
most-all titles verdicts before after written = record {
  earlier = verdicts;
  last = [];
  split = sym (append-nil verdicts);
  one = omega arith;
  count = length (verdict_lines titles 1 verdicts);
  whole = omega arith;
  written = rw take-length written;
}

-- ---- answers

module _ {A : Type 0} (Right : Question → List Expr → Option Item → A → Type 0) where
  pub judged-none : (questions : List Question) (statements : List Statement) → AreJudged Right questions statements []
  unfolding AreJudged
  judged-none questions statements = tt

  pub judged-more : (questions : List Question) (statements : List Statement) (answers : List (Option A)) (question : Question) (statement : Statement) (answer : Option A) → slice_get questions (length answers) ≡ Some question
      → slice_get statements (length answers) ≡ Some statement → AreJudged Right questions statements answers → IsJudged Right question statement answer → AreJudged Right questions statements (answers ++ answer ∷ [])
  unfolding AreJudged
  judged-more [] statements answers question statement answer here there judged next = absurd cc
  judged-more (q ∷ qs) [] answers question statement answer here there judged next = absurd cc
  judged-more (q ∷ qs) (s ∷ ss) [] question statement answer here there judged next =
      let one : question ≡ q = cc in
      let other : statement ≡ s = cc in
      (subst (λ x. IsJudged Right x s answer) one (subst (λ x. IsJudged Right question x answer) other next), tt)
  judged-more (q ∷ qs) (s ∷ ss) (a ∷ rest) question statement answer here there judged next =
      (judged.0, judged-more qs ss rest question statement answer here there judged.1 next)

-- ---- the next statement

module _ {T N J F : Type 0} (theory : TheoryOf T N) (judge : JudgeOf J T F N) (limits : Limits) (claims : Claims T N) (old new : List (Option F)) (line : List ℕ) (next : JudgesNext theory judge limits claims old new line) where
  pub right-next : AreJudgedFor theory judge limits claims.problems claims.statements old → AreJudgedFor theory judge limits claims.problems claims.statements new
  right-next right =
      let questions = map (question_of theory.denotes) claims.problems in
      let statements = map (statement_of theory.denotes) claims.statements in
      let here : slice_get questions (length old) ≡ Some (question_of theory.denotes next.problem) =
      slice_get-map (question_of theory.denotes) claims.problems (length old) ∙ ap (option_map (question_of theory.denotes)) next.problem_at in
      let there : slice_get statements (length old) ≡ Some (statement_of theory.denotes next.stated) =
      slice_get-map (statement_of theory.denotes) claims.statements (length old) ∙ ap (option_map (statement_of theory.denotes)) next.stated_at in
      rw next.more (judged-more (λ question. judge.right question limits) questions statements old (question_of theory.denotes next.problem) (statement_of theory.denotes next.stated) next.answer here there right next.right)

  verdicts-next : verdicts_for judge new ≡ verdicts_for judge old ++ verdict_for judge next.answer ∷ []
  verdicts-next = verdicts-more (verdict_on judge.verdict) old new next.answer next.more

  counted : length (verdicts_for judge old) ≡ length old
  counted = length-map old (verdict_on judge.verdict)

  pub lined-next : (before between after : Option (List ℕ)) → Appends before between (verdict_lines claims.titles 1 (verdicts_for judge old)) → Appends between after line → Appends before after (verdict_lines claims.titles 1 (verdicts_for judge new))
  lined-next before between after written more =
      rw (verdicts-next, lines-more claims.titles 1 (verdicts_for judge old) (verdict_for judge next.answer), counted)
      (appended_more _ _ _ _ _ written (rw next.lined at more))

  -- its line was cut off
  pub cut-next : (count : ℕ) (before between after : Option (List ℕ)) → Appends before between (verdict_lines claims.titles 1 (verdicts_for judge old)) → Appends between after (take count line) → WritesMostLines claims.titles (verdicts_for judge new) before after
  cut-next count before between after written begun =
      let begun' : Appends between after (take count (verdict_line claims.titles (length (verdicts_for judge old) + 1) (verdict_for judge next.answer))) = rw counted (rw next.lined at begun) in
      rw verdicts-next (most-more claims.titles (verdicts_for judge old) (verdict_for judge next.answer) count before between after written begun')

  pub count-next : length new ≡ length old + 1
  count-next = rw next.more (length-append old (next.answer ∷ []))
