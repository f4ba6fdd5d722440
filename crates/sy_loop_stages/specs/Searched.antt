-- What one search and what lies beyond it find.
use Rattle.std.specs.Prelude.{Bool, ◌≡◌, ◌⊎◌, List, map}
use Rattle.sy_terms.specs.Values.{Val}
use Rattle.sy_terms.specs.Expr.{Expr}
use Rattle.sy_terms.specs.Denoted.{expr_of}
use Rattle.sy_terms.specs.declared.op.Op.{Op}
use Rattle.sy_terms.specs.declared.term.Term.{Term}
use Rattle.sy_terms.specs.declared.theory.Theory.{Ghosts as TheoryOf}
use Rattle.sy_grammar_base.specs.Questions.{Question, question_of}
use Rattle.sy_grammar_base.specs.Solving.{AreWithin}
use Rattle.sy_grammar_base.specs.declared.problem.Problem.{Problem}
use Rattle.sy_query_limits.specs.declared.FailName.{FailName}
use Rattle.sy_query_limits.specs.declared.Limits.{Limits}
use Rattle.sy_query_base.specs.Asked.{Query}
use Rattle.sy_query_base.specs.Solutions.{IsSolution}
use Rattle.sy_query_base.specs.declared.decide.Decide.{Ghosts as DecideOf}
use Rattle.sy_loop_spec.specs.declared.reach.Reach.TheVariants.{Joins}
use Rattle.sy_loop_spec.specs.Right.{CauseHolds, IsRightFor}
use Rattle.sy_loop_spec.specs.declared.outcome.FailCause.{FailCause}
use Rattle.sy_loop_spec.specs.declared.outcome.FailCause.TheVariants.{Size}
use Rattle.sy_loop_spec.specs.declared.outcome.Outcome.{Outcome}
use Rattle.sy_loop_spec.specs.declared.outcome.Outcome.TheVariants.{Found, Infeasible, Fail}
use Rattle.sy_loop.specs.Least.{AreLeast}
use Rattle.sy_loop_stages.specs.Finding.{FindsBeyondFor, HasStopped}
use Rattle.sy_loop_stages.specs.Stages.{most_beyond}

-- a search within these limits ended by a cause that holds, and the bodies are members of bounded sizes
pub record AreAfter (T : Type 0) {S N : Type 0} (owned : Op → Bool) (number : N → Val) (budget : S → FailName)
    (shows : Query → Limits → FailName → S → Type 0) (question : Question) (limits : Limits) (bodies : List Expr) : Type 0 where
  pub cause : FailCause T S N
  pub holds : CauseHolds owned number budget shows Joins question limits cause
  pub within : AreWithin question.pool (most_beyond limits.size) question.goals bodies

-- what is found is of the least bound in which anything solves the problem, or is answered after that
abbrev pub FindsIn : {T P S N : Type 0} → (Op → Bool) → (N → Val) → (S → FailName)
    → (Query → Limits → FailName → S → Type 0) → Question → Limits → Outcome T P S N → Type 0
FindsIn {T} owned number budget shows question limits (Found bodies proof) =
    AreLeast Joins question (map (expr_of number) bodies)
    ⊎ AreAfter T owned number budget shows question limits (map (expr_of number) bodies)
FindsIn owned number budget shows question limits Infeasible = Unit {0}
FindsIn owned number budget shows question limits (Fail cause) = Unit {0}

-- the outcome serves without the limits of kept terms, clauses and nodes: it is no fail but that of the size
abbrev pub Lasts : {T P S N : Type 0} → Outcome T P S N → Type 0
Lasts (Found bodies proof) = Unit {0}
Lasts Infeasible = Unit {0}
Lasts (Fail cause) = cause ≡ Size

module _ {T N D P S : Type 0} (theory : TheoryOf T N) (solver : DecideOf D T P S N)
    (problem : Problem T N) (limits : Limits) where
  abbrev pub CauseHoldsFor : FailCause T S N → Type 0
  CauseHoldsFor =
      CauseHolds theory.owned theory.denotes solver.budget solver.shows Joins (question_of theory.denotes problem) limits

  abbrev pub FindsInFor : Outcome T P S N → Type 0
  FindsInFor =
      FindsIn theory.owned theory.denotes solver.budget solver.shows (question_of theory.denotes problem) limits

  abbrev pub HasStoppedFor : Type 0
  HasStoppedFor =
      HasStopped T theory.owned theory.denotes solver.budget solver.shows
      (question_of theory.denotes problem) limits

  abbrev pub AreAfterFor : List Expr → Type 0
  AreAfterFor =
      AreAfter T theory.owned theory.denotes solver.budget solver.shows
      (question_of theory.denotes problem) limits

  -- the bodies solve the problem, as the proof shows, and are answered after a search
  abbrev pub SolvesInFor : List (Term T N) × P → Type 0
  SolvesInFor solution =
      IsSolution solver.accepted (question_of theory.denotes problem) (map (expr_of theory.denotes) solution.0)
      solution.1
      × AreAfterFor (map (expr_of theory.denotes) solution.0)

  -- the outcome is right, and so are bodies that are found
  abbrev pub IsAnswerFor : Outcome T P S N → Type 0
  IsAnswerFor outcome =
      IsRightFor theory solver Joins problem limits outcome × FindsBeyondFor theory solver problem limits outcome
