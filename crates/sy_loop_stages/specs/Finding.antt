-- What is found after a search had ended by a limit.
use Rattle.std.specs.Prelude.{Bool, ◌⊎◌, List, map, Contains}
use Rattle.sy_terms.specs.Values.{Val}
use Rattle.sy_terms.specs.Expr.{Expr}
use Rattle.sy_terms.specs.Denoted.{expr_of}
use Rattle.sy_terms.specs.declared.op.Op.{Op}
use Rattle.sy_terms.specs.declared.theory.Theory.{Ghosts as TheoryOf}
use Rattle.sy_grammar_base.specs.Questions.{Question, question_of}
use Rattle.sy_grammar_base.specs.Solving.{AreWithin}
use Rattle.sy_grammar_base.specs.declared.problem.Problem.{Problem}
use Rattle.sy_query_limits.specs.declared.FailName.{FailName}
use Rattle.sy_query_limits.specs.declared.Limits.{Limits}
use Rattle.sy_query_base.specs.Asked.{Query}
use Rattle.sy_query_base.specs.declared.decide.Decide.{Ghosts as DecideOf}
use Rattle.sy_loop_spec.specs.declared.reach.Reach.TheVariants.{Joins}
use Rattle.sy_loop_spec.specs.Right.{CauseHolds}
use Rattle.sy_loop_spec.specs.declared.outcome.FailCause.{FailCause}
use Rattle.sy_loop_spec.specs.declared.outcome.Outcome.{Outcome}
use Rattle.sy_loop_spec.specs.declared.outcome.Outcome.TheVariants.{Found, Infeasible, Fail}
use Rattle.sy_loop.specs.Least.{AreLeast}
use Rattle.sy_loop_stages.specs.Stages.{stages, most_beyond}

-- the search within the limits of a stage ended by a cause that holds
pub record HasStopped (T : Type 0) {S N : Type 0} (owned : Op → Bool) (number : N → Val) (budget : S → FailName)
    (shows : Query → Limits → FailName → S → Type 0) (question : Question) (limits : Limits) : Type 0 where
  pub stage : Limits
  pub of : Contains (stages limits) stage
  pub cause : FailCause T S N
  pub holds : CauseHolds owned number budget shows Joins question stage cause

-- in place of that the bodies are answered: members of bounded sizes
pub record AreBeyond (T : Type 0) {S N : Type 0} (owned : Op → Bool) (number : N → Val) (budget : S → FailName)
    (shows : Query → Limits → FailName → S → Type 0) (question : Question) (limits : Limits) (bodies : List Expr) : Type 0 where
  pub stopped : HasStopped T owned number budget shows question limits
  pub within : AreWithin question.pool (most_beyond limits.size) question.goals bodies

-- what is found is of the least bound in which anything solves the problem, or the search of a stage had ended before
abbrev pub FindsBeyond : {T P S N : Type 0} → (Op → Bool) → (N → Val) → (S → FailName)
    → (Query → Limits → FailName → S → Type 0) → Question → Limits → Outcome T P S N → Type 0
FindsBeyond {T} owned number budget shows question limits (Found bodies proof) =
    AreLeast Joins question (map (expr_of number) bodies)
    ⊎ AreBeyond T owned number budget shows question limits (map (expr_of number) bodies)
FindsBeyond owned number budget shows question limits Infeasible = Unit {0}
FindsBeyond owned number budget shows question limits (Fail cause) = Unit {0}

-- the same for a theory and a solver
abbrev pub FindsBeyondFor : {T N D P S : Type 0} → TheoryOf T N → DecideOf D T P S N → Problem T N → Limits
    → Outcome T P S N → Type 0
FindsBeyondFor theory solver problem limits =
    FindsBeyond theory.owned theory.denotes solver.budget solver.shows (question_of theory.denotes problem) limits
