-- What becomes of the tuples on which constraints rest at the assignments of a history.
use Rattle.std.specs.Prelude.{ℕ, ◌≡◌, ◌<◌, ◌≤◌, ◌⊎◌, List, length, slice_get, Some, Contains}
use Rattle.sy_terms.specs.Values.{Val}
use Rattle.sy_terms.specs.Expr.{Expr}
use Rattle.sy_grammar_base.specs.Questions.{Question}
use Rattle.sy_points.specs.Asked.{Asked, of_function}
use Rattle.sy_loop_spec.specs.Resting.{RestsOn}
use Rattle.sy_loop_spec.specs.Adding.{IsAsked, room}
use Rattle.sy_loop_spec.specs.Histories.{Counterexample}
use Rattle.sy_loop_pointwise.specs.Rests.{TermLeavesAt}
use Rattle.sy_loop_spec.specs.Goods.{assignments_of}
use Rattle.sy_loop_truth.specs.Rests.{AreRests}
use Rattle.sy_loop_pointwise.specs.declared.rests.Resting as answer
use Rattle.sy_loop_pointwise.specs.declared.rests.Resting.TheVariants.{All, New, Full, Leaves}

-- a constraint rests on the tuple at an assignment of the history
pub record IsRestedOn (question : Question) (history : List Counterexample) (tuple : List Val) : Type 0 where
  pub counterexample : Counterexample
  pub stored : Contains history counterexample
  pub constraint : Expr
  pub of : Contains question.constraints constraint
  pub rests : RestsOn question counterexample.assignment constraint tuple
  pub first : rests.application.0 ≡ 0

-- each function has the tuples that it had, and function 0 others on which constraints rest at assignments of the history
pub record WidensByRests (question : Question) (history : List Counterexample) (before after : Asked) : Type 0 where
  pub keeps : (function : ℕ) (tuple : List Val) → IsAsked before function tuple → IsAsked after function tuple
  pub only : (function : ℕ) (tuple : List Val) → IsAsked after function tuple → IsAsked before function tuple ⊎ ((function ≡ 0) × IsRestedOn question history tuple)
  pub less : room after ≤ room before

-- at the history's assignment of this place a constraint rests on one tuple more than function 0 may have
pub record RestsOnMore (question : Question) (history : List Counterexample) (asked : Asked) (place : ℕ) : Type 0 where
  pub counterexample : Counterexample
  pub at : slice_get history place ≡ Some counterexample
  pub constraint : Expr
  pub of : Contains question.constraints constraint
  pub tuple : List Val
  pub rests : RestsOn question counterexample.assignment constraint tuple
  pub first : rests.application.0 ≡ 0
  pub within : 0 < length asked.tuples
  pub new : IsAsked asked 0 tuple → ⊥
  pub full : asked.limit ≤ length (of_function asked 0)

-- at the history's assignment of this place a constraint isn't computable, whatever the functions to be found are
pub record AlwaysLeaves (question : Question) (history : List Counterexample) (place : ℕ) : Type 0 where
  pub counterexample : Counterexample
  pub at : slice_get history place ≡ Some counterexample
  pub constraint : Expr
  pub of : Contains question.constraints constraint
  pub leaves : TermLeavesAt question counterexample.assignment constraint

-- the answer
abbrev pub AnswersResting : Question → List Counterexample → Asked → Asked → answer.Resting → Type 0
AnswersResting question history before after (All rests) = AreRests question (assignments_of history) (of_function after 0) rests.items × (after ≡ before)
AnswersResting question history before after New = room after < room before
AnswersResting question history before after (Full place) = RestsOnMore question history after place
AnswersResting question history before after (Leaves place) = AlwaysLeaves question history place
