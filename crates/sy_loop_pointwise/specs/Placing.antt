-- What becomes of constraints at assignments, one after the other.
use Rattle.std.specs.Prelude.{ℕ, ◌≡◌, ◌<◌, ◌⊎◌, List, slice_get, Some, All}
use Rattle.sy_terms.specs.Values.{Val}
use Rattle.sy_terms.specs.Expr.{Expr}
use Rattle.sy_grammar_base.specs.Questions.{Question}
use Rattle.sy_points.specs.Asked.{Asked, of_function}
use Rattle.sy_loop_spec.specs.Resting.{RestsOn}
use Rattle.sy_loop_spec.specs.Adding.{room}
use Rattle.sy_loop_spec.specs.Histories.{Counterexample}
use Rattle.sy_loop_spec.specs.Goods.{assignments_of}
use Rattle.sy_loop_truth.specs.Rests.{IsRest, IsAmong}
use Rattle.sy_loop_pointwise.specs.Resting.{RestsOnMore, AlwaysLeaves}
use Rattle.sy_loop_pointwise.specs.declared.rests.Placed.{Placed}
use Rattle.sy_loop_pointwise.specs.declared.rests.Placed.TheVariants.{There, New, Full, Leaves}
use Rattle.sy_loop_truth.specs.declared.rest.Rest.{Rest}

-- the constraint of number k at the assignment of number p comes before that of these numbers
abbrev pub IsBefore : ℕ → ℕ → ℕ → ℕ → Type 0
IsBefore p k place number = (p < place) ⊎ ((p ≡ place) × (k < number))

-- this is where those before that of these numbers rest: on points alone
pub record AreRestsBefore (question : Question) (assignments points : List (List Val)) (place number : ℕ) (rests : List Rest) : Type 0 where
  pub each : All (IsRest question assignments points) rests
  pub all : (p k : ℕ) (constraint : Expr) (values tuple : List Val) → IsBefore p k place number → slice_get question.constraints k ≡ Some constraint → slice_get assignments p ≡ Some values →
      RestsOn question values constraint tuple → IsAmong points rests k p tuple

-- what becomes of those from the first numbers to the last, at the assignment of this place
abbrev pub Places : Question → List Counterexample → ℕ → ℕ → ℕ → ℕ → ℕ → Asked → List Rest → Asked → List Rest → Placed → Type 0
Places question history at place number place' number' before rests after rests' There =
    (after ≡ before) × (AreRestsBefore question (assignments_of history) (of_function before 0) place number rests → AreRestsBefore question (assignments_of history) (of_function before 0) place' number' rests')
Places question history at place number place' number' before rests after rests' New = room after < room before
Places question history at place number place' number' before rests after rests' Full = RestsOnMore question history after at
Places question history at place number place' number' before rests after rests' Leaves = AlwaysLeaves question history at
