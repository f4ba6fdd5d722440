-- What clauses say of judgements, for a theory and a judge.
use Rattle.std.specs.Prelude.{ℕ, ◌≡◌, ◌+◌, ◌++◌, ◌∷◌, [], List, length, map, slice_get, Option, Some}
use Rattle.sy_terms.specs.declared.theory.Theory.{Ghosts as TheoryOf}
use Rattle.sy_grammar_base.specs.Questions.{question_of}
use Rattle.sy_grammar_base.specs.declared.problem.Problem.{Problem}
use Rattle.sy_query_limits.specs.declared.Limits.{Limits}
use Rattle.sy_reply.specs.Statements.{statement_of}
use Rattle.sy_reply.specs.declared.stated.Stated.{Stated}
use Rattle.sygus_verdicts.specs.Judged.{IsJudged, AreJudged}
use Rattle.sygus_verdicts.specs.Lines.{verdict_line}
use Rattle.sygus_verdicts.specs.Verdicts.{Verdict, verdict_on}
use Rattle.sygus_verdicts.specs.declared.verdicts.Claims.{Claims}
use Rattle.sygus_verdicts.specs.declared.judge.Judge.{Ghosts as JudgeOf}

-- what is found of one statement is right
abbrev pub IsJudgedFor : {T N J F : Type 0} → TheoryOf T N → JudgeOf J T F N → Limits → Problem T N → Stated T N → Option F → Type 0
IsJudgedFor theory judge limits problem stated answer =
    IsJudged (λ question. judge.right question limits) (question_of theory.denotes problem) (statement_of theory.denotes stated) answer

-- so of the first statements, in order
abbrev pub AreJudgedFor : {T N J F : Type 0} → TheoryOf T N → JudgeOf J T F N → Limits → List (Problem T N) → List (Stated T N) → List (Option F) → Type 0
AreJudgedFor theory judge limits problems statements answers =
    AreJudged (λ question. judge.right question limits) (map (question_of theory.denotes) problems) (map (statement_of theory.denotes) statements) answers

-- the verdict on one statement, and on the first ones
abbrev pub verdict_for : {T N J F : Type 0} → JudgeOf J T F N → Option F → Verdict
verdict_for judge answer = verdict_on judge.verdict answer

abbrev pub verdicts_for : {T N J F : Type 0} → JudgeOf J T F N → List (Option F) → List Verdict
verdicts_for judge answers = map (verdict_on judge.verdict) answers

-- the next statement was judged, and this is its line
pub record JudgesNext {T N J F : Type 0} (theory : TheoryOf T N) (judge : JudgeOf J T F N) (limits : Limits) (claims : Claims T N) (old new : List (Option F)) (line : List ℕ) : Type 0 where
  pub problem : Problem T N
  pub stated : Stated T N
  pub problem_at : slice_get claims.problems (length old) ≡ Some problem
  pub stated_at : slice_get claims.statements (length old) ≡ Some stated
  pub answer : Option F
  pub right : IsJudgedFor theory judge limits problem stated answer
  pub more : new ≡ old ++ answer ∷ []
  pub lined : line ≡ verdict_line claims.titles (length old + 1) (verdict_for judge answer)
