-- Rows of truth values that say where leaves are good, and points that have each tuple on which a constraint rests.
use Rattle.std.specs.Prelude.{ℕ, ◌≡◌, Bool, true, false, List, length, map, slice_get, Some, Contains}
use Rattle.sy_terms.specs.Values.{Val}
use Rattle.sy_terms.specs.Expr.{Expr}
use Rattle.sy_terms.specs.Meaning.{Function}
use Rattle.sy_grammar_base.specs.Questions.{Question}
use Rattle.sy_unify.specs.Rows.{holds_at}
use Rattle.sy_bank_level.specs.Banks.{Entry}
use Rattle.sy_bank_level.specs.Rows.{IsRow}
use Rattle.sy_loop_spec.specs.Histories.{Counterexample}
use Rattle.sy_loop_spec.specs.Resting.{RestsOn, IsGoodAt, IsBadAt}

-- the assignments of a history
abbrev pub assignments_of : List Counterexample → List (List Val)
assignments_of history = map (λ (c : Counterexample). c.assignment) history

-- each of the kept terms has its row at the points
abbrev pub EntriesHaveRows : List Function → List (List Val) → List Entry → Type 0
EntriesHaveRows defined points kept = (place : ℕ) (entry : Entry) → slice_get kept place ≡ Some entry → IsRow defined points entry.term entry.row

-- a row for each leaf, which says of each point whether the leaf is good or bad there
pub record AreGoods (question : Question) (assignments points : List (List Val)) (leaves : List Entry) (goods : List (List Bool)) : Type 0 where
  pub many : length goods ≡ length leaves
  pub good : (leaf point : ℕ) (entry : Entry) (tuple : List Val) → slice_get leaves leaf ≡ Some entry → slice_get points point ≡ Some tuple →
      holds_at goods leaf point ≡ true → IsGoodAt question assignments tuple entry.term
  pub bad : (leaf point : ℕ) (entry : Entry) (tuple : List Val) → slice_get leaves leaf ≡ Some entry → slice_get points point ≡ Some tuple →
      holds_at goods leaf point ≡ false → IsBadAt question assignments tuple entry.term

-- each tuple on which a constraint rests at one of the assignments is a point
abbrev pub AllRestWithin : Question → List (List Val) → List (List Val) → Type 0
AllRestWithin question assignments points = (values : List Val) (constraint : Expr) (tuple : List Val) → Contains assignments values → Contains question.constraints constraint →
    RestsOn question values constraint tuple → Contains points tuple
