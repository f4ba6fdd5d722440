-- Runs of the simplex method by Bland's rule, from the initial tableau.
use Rattle.std.specs.Prelude.{◌≡◌, ◌≢◌, ℕ, ◌<◌, ◌≤◌, ◌+◌, ◌⊎◌, List, [], ◌∷◌, ◌++◌, length, pos, neg_ℤ, get_or}
use Rattle.sy_frac.specs.Fraction.{Fraction, IsInRange}
use Rattle.sy_linear_known.specs.declared.form.Form.{Form}
use Rattle.sy_simplex.specs.Operations.{fraction_of_whole, fraction_opposite}
use Rattle.sy_simplex.specs.Rows.{at}
use Rattle.sy_simplex.specs.States.{TableauState, variable_of_column, basic, row, coef, row_value, rest, BoundsAreMet, IsStuck, IsLeaving, IsEntering, SomeChoiceUnfit, IsPivot, StepUnfit}
use Rattle.sy_simplex.specs.Problems.{coefficient, form}

-- each coefficient and constant is at most 2^127 - 1 in magnitude
pub record FormFits (f : Form) : Type 0 where
  pub coefs : (k : ℕ) → k < length f.coefs → IsInRange (get_or f.coefs k (0, pos 0)).1
  pub constant : IsInRange f.constant

-- at first the form variables are basic and stand for the forms' linear parts, and all values are 0
pub record IsInitial (vars : ℕ) (forms : List Form) (t : TableauState) : Type 0 where
  pub vars_is : t.vars ≡ vars
  pub columns_length : length t.columns ≡ vars
  pub columns_are : (j : ℕ) → j < vars → variable_of_column t j ≡ j
  pub basics_length : length t.basics ≡ length forms
  pub basics_are : (i : ℕ) → i < length forms → basic t i ≡ vars + i
  pub rows_length : length t.rows ≡ length forms
  pub widths : (i : ℕ) → i < length forms → length (row t i) ≡ vars
  pub coefs : (i j : ℕ) → i < length forms → j < vars → coef t i j ≡ fraction_of_whole (coefficient (form forms i).coefs j)
  pub values_length : length t.values ≡ length forms
  pub values_zero : (i : ℕ) → i < length forms → row_value t i ≡ fraction_of_whole (pos 0)
  pub bounds_length : length t.bounds ≡ length forms
  pub bounds_are : (i : ℕ) → i < length forms → at t.bounds i ≡ fraction_of_whole (neg_ℤ (form forms i).constant)

-- the steps of the run so far, as pairs of the leaving and the entering variable, and the tableau that they reach
pub data Ran (vars : ℕ) (forms : List Form) : List (ℕ × ℕ) → TableauState → Type 0 where
  begun : {t : TableauState} → ((i : ℕ) → i < length forms → FormFits (form forms i)) → IsInitial vars forms t → Ran vars forms [] t
  stepped : {steps : List (ℕ × ℕ)} {t u : TableauState} (r e : ℕ) → Ran vars forms steps t → IsLeaving t r → IsEntering t r e → IsPivot t u r e → Ran vars forms (steps ++ ((basic t r, variable_of_column t e) ∷ [])) u

-- the value of a variable: that of its row, or where it stands as a column's
abbrev pub IsValue : TableauState → ℕ → Fraction → Type 0
IsValue t v f = ((i : ℕ) × (i < length t.basics) × (basic t i ≡ v) × (f ≡ row_value t i)) ⊎ (((i : ℕ) → i < length t.basics → basic t i ≢ v) × (f ≡ rest t v))

-- the values of the free variables
pub record IsPoint (t : TableauState) (point : List Fraction) : Type 0 where
  pub len : length point ≡ t.vars
  pub each : (v : ℕ) → v < t.vars → IsValue t v (at point v)

-- the multiplier of the form with the variable v: 1 in the row, the opposite of the row's coefficient in a column, 0 elsewhere
abbrev pub IsMultiplier : TableauState → ℕ → ℕ → Fraction → Type 0
IsMultiplier t r v f =
    ((basic t r ≡ v) × (f ≡ fraction_of_whole (pos 1)))
    ⊎ ((j : ℕ) × (j < length t.columns) × (variable_of_column t j ≡ v) × (f ≡ fraction_opposite (coef t r j)))
    ⊎ ((basic t r ≢ v) × ((j : ℕ) → j < length t.columns → variable_of_column t j ≢ v) × (f ≡ fraction_of_whole (pos 0)))

-- a multiplier for each form, by row r
pub record AreRowMultipliers (t : TableauState) (r : ℕ) (multipliers : List Fraction) : Type 0 where
  pub len : length multipliers ≡ length t.bounds
  pub each : (i : ℕ) → i < length t.bounds → IsMultiplier t r (t.vars + i) (at multipliers i)

-- the run ends at this point, where no variable is below its bound
pub record EndsAt (vars : ℕ) (forms : List Form) (pivots : ℕ) (point : List Fraction) : Type 0 where
  pub steps : List (ℕ × ℕ)
  pub state : TableauState
  pub ran : Ran vars forms steps state
  pub within : length steps ≤ pivots
  pub met : BoundsAreMet state
  pub point_is : IsPoint state point

-- the run ends where no column can raise the row to be raised
pub record EndsStuck (vars : ℕ) (forms : List Form) (pivots : ℕ) : Type 0 where
  pub steps : List (ℕ × ℕ)
  pub state : TableauState
  pub ran : Ran vars forms steps state
  pub within : length steps ≤ pivots
  pub row : ℕ
  pub stuck : IsStuck state row

-- the run has taken all its steps, and is at neither end
pub record RunIsSpent (vars : ℕ) (forms : List Form) (pivots : ℕ) (steps : List (ℕ × ℕ)) : Type 0 where
  pub state : TableauState
  pub ran : Ran vars forms steps state
  pub all : length steps ≡ pivots
  pub row : ℕ
  pub entering : ℕ
  pub leaves : IsLeaving state row
  pub enters : IsEntering state row entering

-- an operation after these steps doesn't fit: of the next step, or, after all steps, of its choice
pub data IsOutOfRange (vars : ℕ) (forms : List Form) (pivots : ℕ) : List (ℕ × ℕ) → Type 0 where
  form_unfit : (i : ℕ) → i < length forms → ¬ (FormFits (form forms i)) → IsOutOfRange vars forms pivots []
  choice_unfit : {steps : List (ℕ × ℕ)} (t : TableauState) → Ran vars forms steps t → length steps ≤ pivots → SomeChoiceUnfit t → IsOutOfRange vars forms pivots steps
  step_unfit : {steps : List (ℕ × ℕ)} (t : TableauState) (r e : ℕ) → Ran vars forms steps t → length steps < pivots → IsLeaving t r → IsEntering t r e → StepUnfit t r e → IsOutOfRange vars forms pivots steps
