-- Solutions of the least bound.
use Rattle.std.specs.Prelude.{ℕ, ◌<◌, List, map}
use Rattle.sy_terms.specs.Values.{Val}
use Rattle.sy_terms.specs.Expr.{Expr}
use Rattle.sy_terms.specs.Denoted.{expr_of}
use Rattle.sy_grammar_base.specs.Questions.{Question}
use Rattle.sy_loop_spec.specs.Bounds.{InBound}
use Rattle.sy_loop_spec.specs.declared.reach.Reach.{Reach}
use Rattle.sy_loop_spec.specs.Unsolved.{NoSolutionWithin}
use Rattle.sy_loop_spec.specs.declared.outcome.Outcome.{Outcome}
use Rattle.sy_loop_spec.specs.declared.outcome.Outcome.TheVariants.{Found, Infeasible, Fail}

-- the bodies are within a bound, and nothing in a lesser one solves the problem
pub record AreLeast (reach : Reach) (question : Question) (bodies : List Expr) : Type 0 where
  pub number : ℕ
  pub bound : InBound reach question number bodies
  pub none : (m : ℕ) → m < number → NoSolutionWithin reach question m

-- what is found is so
abbrev pub FindsLeast : {T P S N : Type 0} → (N → Val) → Reach → Question → Outcome T P S N → Type 0
FindsLeast number reach question (Found bodies proof) = AreLeast reach question (map (expr_of number) bodies)
FindsLeast number reach question Infeasible = Unit {0}
FindsLeast number reach question (Fail cause) = Unit {0}
