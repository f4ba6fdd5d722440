-- One more problem is answered.
use Rattle.std.proofs.Common.{refl, ◌≡◌, ◌<◌, ◌+◌, ◌++◌, ◌∙◌, sym, ap, suc, zero, map, zero-add, List, [], ◌∷◌, ℕ, length, take, get_or, Some, None, arith, append_assoc, append-nil, subst}
use Rattle.std.specs.Prelude.{Bool, Option, All}
use Rattle.std.specs.Io.KnownBytes.{Appends}
use Rattle.std.proofs.Math.Seq.{take-length}
use Rattle.std.proofs.lemmas.List.{length-map, map-append}
use Rattle.sy_io.proofs.Streams.{appended_more}
use Rattle.sy_terms.specs.Values.{Val}
use Rattle.sy_terms.specs.declared.op.Op.{Op}
use Rattle.sy_terms.specs.declared.sort.Sort.{Sort}
use Rattle.sy_grammar_base.specs.Questions.{Question, question_of}
use Rattle.sy_grammar_base.specs.declared.problem.Problem.{Problem}
use Rattle.sy_scope_causes.specs.declared.titles.Titles.{Titles}
use Rattle.sygus_replies.specs.Replies.{Reply, Shown}
use Rattle.sygus_replies.specs.Answerable.{IsAnswerable}
use Rattle.sygus_replies.specs.Texts.{answer_text, texts, answer_line, answer_lines, memory_line}
use Rattle.sygus_replies.specs.Answered.{AreRight, WritesMost, WritesMostFails, BreaksNext}

pub appended_nothing : (before : Option (List ℕ)) → Appends before before []
appended_nothing None = tt
appended_nothing (Some bs) = sym (append-nil bs)

pub texts-none : (titles : Titles) (questions : List Question) → texts titles questions [] ≡ []
unfolding texts
texts-none titles questions = refl

pub lines-none : (k : ℕ) → answer_lines k [] ≡ []
unfolding answer_lines
lines-none k = refl

pub right-none : {A : Type 0} (Right : Question → A → Type 0) (questions : List Question) → AreRight Right questions []
unfolding AreRight
right-none Right questions = tt

pub texts-more : (titles : Titles) (questions : List Question) (all : List Shown) (question : Question) (shown : Shown) → length all < length questions → question ≡ get_or questions (length all) question
    → texts titles questions (all ++ shown ∷ []) ≡ texts titles questions all ++ answer_text titles question shown
unfolding texts
texts-more titles [] all question shown lt e = absurd (omega arith)
texts-more titles (q ∷ qs) [] question shown lt e =
    append-nil (answer_text titles q shown) ∙ ap (λ (x : Question). answer_text titles x shown) (sym e)
texts-more titles (q ∷ qs) (r ∷ rest) question shown lt e =
    ap (λ (xs : List ℕ). answer_text titles q r ++ xs) (texts-more titles qs rest question shown (omega arith) e)
    ∙ sym (append_assoc (answer_text titles q r) (texts titles qs rest) (answer_text titles question shown))

pub right-more : {A : Type 0} (Right : Question → A → Type 0) (questions : List Question) (answers : List A) (question : Question) (answer : A) → length answers < length questions → question ≡ get_or questions (length answers) question
    → AreRight Right questions answers → Right question answer → AreRight Right questions (answers ++ answer ∷ [])
unfolding AreRight
right-more Right [] answers question answer lt e right here = absurd (omega arith)
right-more Right (q ∷ qs) [] question answer lt e right here =
    (subst (λ (x : Question). Right x answer) e here, tt)
right-more Right (q ∷ qs) (a ∷ rest) question answer lt e right here =
    (right.0, right-more Right qs rest question answer (omega arith) e right.1 here)

pub lines-more : (k : ℕ) (replies : List Reply) (reply : Reply) → answer_lines k (replies ++ reply ∷ []) ≡ answer_lines k replies ++ answer_line (length replies + k) reply
unfolding answer_lines
lines-more k [] reply =
    append-nil (answer_line k reply) ∙ ap (λ (n : ℕ). answer_line n reply) (sym (zero-add k))
lines-more k (r ∷ rest) reply =
    let e : length rest + (k + 1) ≡ suc (length rest) + k = omega arith in
    ap (λ (xs : List ℕ). answer_line k r ++ xs) (lines-more (k + 1) rest reply)
    ∙ sym (append_assoc (answer_line k r) (answer_lines (k + 1) rest) (answer_line (length rest + (k + 1)) reply))
    ∙ ap (λ (n : ℕ). (answer_line k r ++ answer_lines (k + 1) rest) ++ answer_line n reply) e

-- the replies to one answer more
pub replies-more : {A R : Type 0} (reply : A → R) (answers new : List A) (answer : A) → new ≡ answers ++ answer ∷ [] → map reply new ≡ map reply answers ++ reply answer ∷ []
replies-more reply answers new answer more = ap (map reply) more ∙ map-append reply answers (answer ∷ [])

pub take-past : (xs ys : List ℕ) (n : ℕ) → take (length xs + n) (xs ++ ys) ≡ xs ++ take n ys
take-past [] ys n = ap (λ (k : ℕ). take k ys) (zero-add n)
take-past (x ∷ xs) ys n =
    let e : suc (length xs) + n ≡ suc (length xs + n) = omega arith in
    ap (λ (k : ℕ). take k (x ∷ (xs ++ ys))) e ∙ ap (λ (zs : List ℕ). x ∷ zs) (take-past xs ys n)

-- the text of the last reply was cut off
pub most-more : {A : Type 0} (Right : Question → A → Type 0) (reply : A → Reply) (shown : A → Shown) (titles : Titles) (questions : List Question) (question : Question) (old new : List A) (before between after err err' : Option (List ℕ))
    → (next : BreaksNext Right reply shown titles question old new between after err err') → length old < length questions → question ≡ get_or questions (length old) question
    → Appends before between (texts titles questions (map shown old)) → WritesMost titles questions (map shown new) before after
most-more Right reply shown titles questions question old new before between after err err' next lt at written =
    let count = length-map old shown in
    let less : length (map shown old) < length questions = omega (arith, count, lt) in
    let here : question ≡ get_or questions (length (map shown old)) question = rw count at in
    record {
      earlier = map shown old;
      last = shown next.answer ∷ [];
      split = replies-more shown old new next.answer next.more;
      one = omega arith;
      count = length (texts titles questions (map shown old)) + next.count;
      whole = omega arith;
      written = rw (
        replies-more shown old new next.answer next.more,
        texts-more titles questions (map shown old) question (shown next.answer) less here,
        take-past (texts titles questions (map shown old)) (answer_text titles question (shown next.answer)) next.count,
      )
          (appended_more _ _ _ _ _ written next.begun);
    }

-- all texts were written
pub most-all : (titles : Titles) (questions : List Question) (shown : List Shown) (before after : Option (List ℕ)) → Appends before after (texts titles questions shown) → WritesMost titles questions shown before after
most-all titles questions shown before after written = record {
  earlier = shown;
  last = [];
  split = sym (append-nil shown);
  one = omega arith;
  count = length (texts titles questions shown);
  whole = omega arith;
  written = rw take-length written;
}

-- the line of the last reply was cut off
pub fails-more : {A : Type 0} (Right : Question → A → Type 0) (reply : A → Reply) (shown : A → Shown) (titles : Titles) (question : Question) (old new : List A) (out out' before between after : Option (List ℕ))
    → (next : BreaksNext Right reply shown titles question old new out out' between after) → Appends before between (answer_lines 1 (map reply old)) → WritesMostFails (map reply new) before after
fails-more Right reply shown titles question old new out out' before between after next written = record {
  earlier = map reply old;
  last = reply next.answer ∷ [];
  split = replies-more reply old new next.answer next.more;
  one = omega arith;
  count = next.line_count;
  written = rw (length-map old reply) (appended_more _ _ _ _ _ written next.line_begun);
}

-- all lines were written, and that of want of memory was cut off
pub fails-all : (replies : List Reply) (before between after : Option (List ℕ)) (count : ℕ) → Appends before between (answer_lines 1 replies) → Appends between after (take count memory_line) → WritesMostFails replies before after
fails-all replies before between after count written begun = record {
  earlier = replies;
  last = [];
  split = sym (append-nil replies);
  one = omega arith;
  count = count;
  written = appended_more _ _ _ _ _ written begun;
}

module _ {T N : Type 0} (number : N → Val) where
  -- the question of a problem at its place
  pub question_at : (problems : List (Problem T N)) (k : ℕ) (problem : Problem T N) → k < length problems → problem ≡ get_or problems k problem → question_of number problem ≡ get_or (map (question_of number) problems) k (question_of number problem)
  question_at [] k problem lt at = absurd (omega arith)
  question_at (p ∷ ps) zero problem lt at = ap (question_of number) at
  question_at (p ∷ ps) (suc k) problem lt at = question_at ps k problem (omega arith) at

  pub question_count : (problems : List (Problem T N)) → length (map (question_of number) problems) ≡ length problems
  question_count [] = refl
  question_count (p ∷ ps) = ap suc (question_count ps)

  -- each problem's question can be answered, where all can
  pub question_answerable : (owned : Op → Bool) (numeric : Sort → Bool) (titles : Titles) (problems : List (Problem T N)) (k : ℕ) (problem : Problem T N) → k < length problems → problem ≡ get_or problems k problem
      → All (IsAnswerable owned numeric titles) (map (question_of number) problems) → IsAnswerable owned numeric titles (question_of number problem)
  question_answerable owned numeric titles problems k problem lt at each =
      let here = question_at problems k problem lt at in
      let count = question_count problems in
      subst (IsAnswerable owned numeric titles) (sym here) (each k (question_of number problem) (omega (arith, lt, count)))
