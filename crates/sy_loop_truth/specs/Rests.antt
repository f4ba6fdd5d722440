-- Which constraints rest on which points, at which assignments.
use Rattle.std.specs.Prelude.{ℕ, ◌≡◌, List, slice_get, Some, All, Contains}
use Rattle.sy_terms.specs.Values.{Val}
use Rattle.sy_terms.specs.Expr.{Expr}
use Rattle.sy_grammar_base.specs.Questions.{Question}
use Rattle.sy_grammar_base.specs.Solving.{AreValues}
use Rattle.sy_loop_spec.specs.Resting.{RestsOn}
use Rattle.sy_loop_spec.specs.Histories.{Counterexample}
use Rattle.sy_loop_truth.specs.declared.rest.Rest.{Rest}

-- the assignments have values of the variables
abbrev pub AreAssigned : Question → List Counterexample → Type 0
AreAssigned question history = (place : ℕ) (c : Counterexample) → slice_get history place ≡ Some c → AreValues question.variables c.assignment

-- the constraint of this number rests on the point of this number, at the assignment of this number
pub record IsRest (question : Question) (assignments points : List (List Val)) (rest : Rest) : Type 0 where
  pub constraint : Expr
  pub of : slice_get question.constraints rest.constraint ≡ Some constraint
  pub values : List Val
  pub stored : slice_get assignments rest.place ≡ Some values
  pub tuple : List Val
  pub at : slice_get points rest.point ≡ Some tuple
  pub rests : RestsOn question values constraint tuple

-- the tuple is a point, on which the constraint of this number rests at the assignment of this number
pub record IsAmong (points : List (List Val)) (rests : List Rest) (number place : ℕ) (tuple : List Val) : Type 0 where
  pub point : ℕ
  pub at : slice_get points point ≡ Some tuple
  pub among : Contains rests (record { constraint = number; place = place; point = point })

-- this is where each constraint rests at each assignment: on points alone
pub record AreRests (question : Question) (assignments points : List (List Val)) (rests : List Rest) : Type 0 where
  pub each : All (IsRest question assignments points) rests
  pub all : (number place : ℕ) (constraint : Expr) (values tuple : List Val) → slice_get question.constraints number ≡ Some constraint → slice_get assignments place ≡ Some values →
      RestsOn question values constraint tuple → IsAmong points rests number place tuple
