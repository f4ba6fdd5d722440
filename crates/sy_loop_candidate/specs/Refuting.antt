-- What rows of kept terms tell of a candidate at the assignments of a history.
use Rattle.std.specs.Prelude.{ℕ, Bool, ◌≡◌, ◌⊎◌, List, length, All, Contains, slice_get, Some}
use Rattle.std.specs.List.{AllWithin}
use denote.Ref.{Bor}
use Rattle.sy_terms.specs.Values.{Val}
use Rattle.sy_terms.specs.Expr.{Expr}
use Rattle.sy_terms.specs.declared.op.Op.{Op}
use Rattle.sy_grammar_base.specs.Questions.{Question, question_of, signatures}
use Rattle.sy_grammar_base.specs.Solving.{AreValues, IsTrueUnder}
use Rattle.sy_grammar_base.specs.declared.problem.Problem.{Problem}
use Rattle.sy_meaning.specs.Calls.{IsCallOf}
use Rattle.sy_points.specs.Asked.{Asked}
use Rattle.sy_bank_level.specs.declared.kept.Kept.{Kept}
use Rattle.sy_loop_spec.specs.Budgets.{LeavesRange}
use Rattle.sy_loop_spec.specs.Histories.{Counterexample}
use Rattle.sy_loop_spec.specs.Adding.{IsAsked, AreAsked}
use Rattle.sy_loop_spec.specs.Truths.{asked_by, IsFalseByCalls, IsViolated}
use Rattle.sy_loop_candidate.specs.Bodies.{AreBodies, bodies_of}
use Rattle.sy_loop_candidate.specs.Observing.{KeptHaveRows, IsMissing}
use Rattle.sy_loop_candidate.specs.declared.tell.Told.{Told}
use Rattle.sy_loop_candidate.specs.declared.tell.Told.TheVariants.{True, False, Nothing}
use Rattle.sy_grammar_base.specs.Fits.{wanted_of}

-- each tuple is of its function's arguments
abbrev pub AreTaken : Question → Asked → Type 0
AreTaken question asked = (function : ℕ) (tuple : List Val) → IsAsked asked function tuple → IsCallOf (wanted_of question) (function, tuple)

-- each assignment of the history has values of the variables
abbrev pub AreAssignments : Question → List Counterexample → Type 0
AreAssignments question history = (place : ℕ) (c : Counterexample) → slice_get history place ≡ Some c → AreValues question.variables c.assignment

-- kept terms with their rows, one for each function to be found, as bodies of which the rows may tell
pub record AreReady {T N : Type 0} (owned : Op → Bool) (number : N → Val) (problem : Problem T N) (asked : Asked) (chosen : List (Bor (Kept T N))) : Type 0 where
  pub fit : AreBodies owned problem.defs (bodies_of number chosen) (signatures problem)
  pub rows : KeptHaveRows owned number problem.defs asked chosen
  pub functions : length asked.tuples ≡ length (question_of number problem).goals
  pub taken : AreTaken (question_of number problem) asked

-- under the bodies a value on the way to the term leaves the range, or a call that it asks for isn't among the tuples
abbrev pub IsHidden : Question → Asked → List Expr → List Val → Expr → Type 0
IsHidden question asked bodies values term = LeavesRange question bodies values term ⊎ IsMissing (asked_by question bodies values term) asked

-- the term isn't true, by calls that are among the tuples
pub record IsShownFalse (question : Question) (asked : Asked) (bodies : List Expr) (values : List Val) (term : Expr) : Type 0 where
  pub is : IsFalseByCalls question bodies values term (asked_by question bodies values term)
  pub there : AreAsked (asked_by question bodies values term) asked

-- what is told of a term
abbrev pub Tells : Question → Asked → List Expr → List Val → Expr → Told → Type 0
Tells question asked bodies values term True = IsTrueUnder question bodies values term
Tells question asked bodies values term False = IsShownFalse question asked bodies values term
Tells question asked bodies values term Nothing = IsHidden question asked bodies values term

-- the rows don't show that the assumption is true
abbrev pub IsUnassured : Question → Asked → List Expr → List Val → Expr → Type 0
IsUnassured question asked bodies values term = (IsTrueUnder question bodies values term → ⊥) ⊎ IsHidden question asked bodies values term

-- the rows don't show that the constraint is false
abbrev pub IsUnrefuted : Question → Asked → List Expr → List Val → Expr → Type 0
IsUnrefuted question asked bodies values term = IsTrueUnder question bodies values term ⊎ IsHidden question asked bodies values term

-- nor that one of the constraints from the one place on and before the other is
abbrev pub AreUnrefuted : Question → Asked → List Expr → List Val → ℕ → ℕ → Type 0
AreUnrefuted question asked bodies values from to = AllWithin (IsUnrefuted question asked bodies values) question.constraints from to

-- one of the terms is so
pub record IsOne (P : Expr → Type 0) (terms : List Expr) : Type 0 where
  pub term : Expr
  pub of : Contains terms term
  pub is : P term

-- the bodies violate the problem at the values, and the calls that show it are among the tuples
pub record IsShown (question : Question) (asked : Asked) (bodies : List Expr) (values : List Val) : Type 0 where
  pub calls : List (ℕ × List Val)
  pub violated : IsViolated question bodies values calls
  pub there : AreAsked calls asked

-- the rows show no violation at the values
abbrev pub IsOpenAt : Question → Asked → List Expr → List Val → Type 0
IsOpenAt question asked bodies values =
    IsOne (IsUnassured question asked bodies values) question.assumptions ⊎ All (IsUnrefuted question asked bodies values) question.constraints

-- nor at the assignments of the history from the one place on and before the other
abbrev pub IsOpenWithin : Question → List Counterexample → Asked → List Expr → ℕ → ℕ → Type 0
IsOpenWithin question history asked bodies from to = AllWithin (λ (c : Counterexample). IsOpenAt question asked bodies c.assignment) history from to

-- nor at any assignment of the history
abbrev pub IsOpenCandidate : Question → List Counterexample → Asked → List Expr → Type 0
IsOpenCandidate question history asked bodies = All (λ (c : Counterexample). IsOpenAt question asked bodies c.assignment) history
