-- Kept terms as leaves of conditional trees.
use Rattle.std.specs.Prelude.{◌≡◌, List, [], ◌∷◌, slice_get, Some, All}
use Rattle.sy_terms.specs.Values.{Val}
use Rattle.sy_terms.specs.Meaning.{functions}
use Rattle.sy_grammar_base.specs.Questions.{Question}
use Rattle.sy_grammar_base.specs.Solving.{AreMembers}
use Rattle.sy_bank_level.specs.Banks.{Entry}
use Rattle.sy_loop_spec.specs.Histories.{Counterexample}
use Rattle.sy_loop_truth.specs.Traces.{LeavesRangeAt}
use Rattle.sy_loop_spec.specs.Goods.{EntriesHaveRows}
use Rattle.sy_loop_goods.specs.declared.goods.Leaving.{Leaving}

-- each is a member of the grammar of the one function to be found, and has its row at the points
pub record AreLeaves (question : Question) (points : List (List Val)) (leaves : List Entry) : Type 0 where
  pub members : All (λ (entry : Entry). AreMembers question.goals (entry.term ∷ [])) leaves
  pub rows : EntriesHaveRows (functions question.definitions) points leaves

-- under the leaf of this number a term of the problem isn't computable at the history's assignment of this place
pub record LeafLeaves (question : Question) (history : List Counterexample) (leaves : List Entry) (leaving : Leaving) : Type 0 where
  pub entry : Entry
  pub at : slice_get leaves leaving.leaf ≡ Some entry
  pub leaves_at : LeavesRangeAt question history (entry.term ∷ []) leaving.place
