-- Kept terms of the one function to be found, as parts of conditional trees.
use Rattle.std.specs.Prelude.{ℕ, ◌+◌, ◌≡◌, ◌≤◌, Bool, List, length, slice_get, Some, None, IfSome}
use Rattle.sy_terms.specs.Meaning.{functions}
use Rattle.sy_grammar_base.specs.Questions.{Goal, Question}
use Rattle.sy_points.specs.Asked.{AreDistinct, Asked, of_function}
use Rattle.sy_bank_level.specs.Banks.{Entry, Merged, IsHonestBank}
use Rattle.sy_loop_spec.specs.declared.reach.Reach.{Reach}
use Rattle.sy_loop_spec.specs.Histories.{Counterexample}
use Rattle.sy_loop_spec.specs.Merging.{IsCoveringOf}
use Rattle.sy_loop_spec.specs.Refuting.{AllRefuted, AllTreesViolate}
use Rattle.sy_loop_goods.specs.Leaves.{LeafLeaves}
use Rattle.sy_loop_goods.specs.declared.goods.Goods.{Goods}
use Rattle.sy_loop_spec.specs.Goods.{AllRestWithin, AreGoods, assignments_of}
use Rattle.sy_loop_spec.specs.Trees.{kept_below, truths}

-- an honest bank of the one function to be found, over its tuples
pub record IsJoinable (question : Question) (asked : Asked) (bank : Merged) : Type 0 where
  pub goal : Goal
  pub at : slice_get question.goals 0 ≡ Some goal
  pub over : bank.points ≡ of_function asked 0
  pub honest : IsHonestBank goal.grammar (functions question.definitions) question.pool bank

-- where the bank covers all derivations up to n, and all members of such sizes are refuted, so are all conditional trees in that bound
abbrev pub TreesFollowFrom : Reach → Question → List Counterexample → Asked → ℕ → Merged → Type 0
TreesFollowFrom reach question history asked n bank =
    IsCoveringOf question asked n 0 bank → AllRefuted question history asked n → AllTreesViolate reach question history n

-- the bank's kept terms of sizes of at most n as leaves and, of this nonterminal, as conditions; where these are true, and
-- where leaves are good, at the tuples of the function, on which all constraints rest
pub record AreParts (question : Question) (history : List Counterexample) (asked : Asked) (condition n : ℕ) (bank : Merged) (leaves conditions : List Entry) (goods : Goods) (rows : List (List Bool)) (points : ℕ) : Type 0 where
  pub leaves_are : leaves ≡ kept_below bank.levels 0 (n + 1)
  pub conditions_are : conditions ≡ kept_below bank.levels condition (n + 1)
  pub rows_are : rows ≡ truths conditions
  pub many : length goods.rows ≡ length leaves
  pub good : goods.leaving ≡ None → AreGoods question (assignments_of history) (of_function asked 0) leaves goods.rows
  pub leaving : IfSome goods.leaving (LeafLeaves question history leaves)
  pub points_are : points ≡ length (of_function asked 0)
  pub some : 1 ≤ points
  pub distinct : AreDistinct (of_function asked 0)
  pub rest : AllRestWithin question (assignments_of history) (of_function asked 0)
