-- When all bodies up to a size are refuted.
use Rattle.std.specs.Prelude.{ℕ, ◌<◌, List}
use Rattle.sy_terms.specs.Expr.{Expr}
use Rattle.sy_grammar_base.specs.Questions.{Question}
use Rattle.sy_grammar_base.specs.Solving.{AreWithin}
use Rattle.sy_points.specs.Asked.{Asked}
use Rattle.sy_loop_spec.specs.Bounds.{IsJoinedWithin}
use Rattle.sy_loop_spec.specs.declared.reach.Reach.{Reach}
use Rattle.sy_loop_spec.specs.declared.reach.Reach.TheVariants.{Sizes, Joins}
use Rattle.sy_loop_spec.specs.Histories.{AreViolatedBelow, Counterexample, IsViolatedIn}
use Rattle.sy_loop_spec.specs.Trials.{IsRefuted}

-- all members of the grammars whose sizes sum to at most n are refuted by calls that are among the tuples
abbrev pub AllRefuted : Question → List Counterexample → Asked → ℕ → Type 0
AllRefuted question history asked n = (bodies : List Expr) → AreWithin question.pool n question.goals bodies → IsRefuted question history asked bodies

-- all conditional trees in bound n violate the problem at an assignment of the history, where the reach has them
abbrev pub AllTreesViolate : Reach → Question → List Counterexample → ℕ → Type 0
AllTreesViolate Sizes question history n = Unit {0}
AllTreesViolate Joins question history n = (bodies : List Expr) → IsJoinedWithin question n bodies → IsViolatedIn question history bodies

-- for each number less than n, all members of such sizes are refuted, and all bodies in that bound violate the problem
pub record AreDoneBelow (reach : Reach) (question : Question) (history : List Counterexample) (asked : Asked) (n : ℕ) : Type 0 where
  pub refuted : (m : ℕ) → m < n → AllRefuted question history asked m
  pub violated : AreViolatedBelow reach question history n
