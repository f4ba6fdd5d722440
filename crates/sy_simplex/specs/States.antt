-- Tableaus. Variables below `vars` are free, and `vars + i` is the variable of form i: the form without its constant, so its
-- bound is the constant's opposite, and it may not be less.
use Rattle.std.specs.Prelude.{◌≡◌, ℕ, ◌<◌, ◌≤◌, ◌+◌, ◌-◌, ◌⊎◌, List, [], length, cond, nat_lt, set, pos, ◌*ℤ◌, ◌<ℤ◌, get_or}
use Rattle.sy_frac.specs.Fraction.{Fraction, CrossesFit}
use Rattle.sy_simplex.specs.Operations.{HasResult, OperationFits, sum, fraction_of_whole, IsShift, ShiftUnfit}
use Rattle.sy_simplex.specs.Rows.{at, AreLowest, IsSolvedRow, SolvedUnfit, LeastRaising, NoneRaises, ArePut, PutUnfitBeside, AreRaised, RaisedUnfitBeside}

-- the variable of each column and of each row, the rows' coefficients by column, the value of each row's variable, and the
-- bound of each form's variable
pub record TableauState : Type 0 where
  pub vars : ℕ
  pub columns : List ℕ
  pub basics : List ℕ
  pub rows : List (List Fraction)
  pub values : List Fraction
  pub bounds : List Fraction

abbrev pub variable_of_column : TableauState → ℕ → ℕ
variable_of_column t j = get_or t.columns j 0

abbrev pub basic : TableauState → ℕ → ℕ
basic t i = get_or t.basics i 0

abbrev pub row : TableauState → ℕ → List Fraction
row t i = get_or t.rows i []

abbrev pub coef : TableauState → ℕ → ℕ → Fraction
coef t i j = at (row t i) j

abbrev pub row_value : TableauState → ℕ → Fraction
row_value t i = at t.values i

-- the bound of a form's variable
abbrev pub bound : TableauState → ℕ → Fraction
bound t v = at t.bounds (v - t.vars)

-- the value of a column's variable: a free one stands at 0, a form's at its bound
abbrev pub rest : TableauState → ℕ → Fraction
rest t v = cond (nat_lt v t.vars) (fraction_of_whole (pos 0)) (bound t v)

-- a variable of the tableau
abbrev pub IsVariable : TableauState → ℕ → Type 0
IsVariable t v = v < t.vars + length t.bounds

-- each row has a variable, a value and a coefficient for each column, and the fractions are in lowest terms
pub record IsShaped (t : TableauState) : Type 0 where
  pub rows_length : length t.rows ≡ length t.basics
  pub values_length : length t.values ≡ length t.basics
  pub widths : (i : ℕ) → i < length t.basics → length (row t i) ≡ length t.columns
  pub basics_below : (i : ℕ) → i < length t.basics → IsVariable t (basic t i)
  pub columns_below : (j : ℕ) → j < length t.columns → IsVariable t (variable_of_column t j)
  pub rows_lowest : (i : ℕ) → i < length t.basics → AreLowest (row t i)
  pub values_lowest : AreLowest t.values
  pub bounds_lowest : AreLowest t.bounds

-- ---- the choice of a step
abbrev pub IsLess : Fraction → Fraction → Type 0
IsLess f g = (f.num *ℤ pos g.den) <ℤ (g.num *ℤ pos f.den)

-- the two compare, and the first isn't below the second
abbrev pub IsAtLeast : Fraction → Fraction → Type 0
IsAtLeast f g = CrossesFit f g × ¬ (IsLess f g)

-- the variable of row i is free, or at least its bound
abbrev pub IsClear : TableauState → ℕ → Type 0
IsClear t i = (basic t i < t.vars) ⊎ IsAtLeast (row_value t i) (bound t (basic t i))

-- no variable is below its bound
abbrev pub BoundsAreMet : TableauState → Type 0
BoundsAreMet t = (i : ℕ) → i < length t.basics → IsClear t i

-- among the first n rows, row r is that of the least variable that isn't clear
pub record FirstUnclear (t : TableauState) (n r : ℕ) : Type 0 where
  pub row_below : r < n
  pub unclear : ¬ (IsClear t r)
  pub clear : (i : ℕ) → i < n → basic t i < basic t r → IsClear t i

-- a comparison of the choice doesn't fit: of the least variable that isn't clear
pub record ChoiceUnfit (t : TableauState) (r : ℕ) : Type 0 where
  pub first : FirstUnclear t (length t.basics) r
  pub bounded : t.vars ≤ basic t r
  pub unfit : ¬ (CrossesFit (row_value t r) (bound t (basic t r)))

abbrev pub SomeChoiceUnfit : TableauState → Type 0
SomeChoiceUnfit t = (r : ℕ) × ChoiceUnfit t r

-- row r is that of the least variable below its bound, and each lesser one of a form compares with its bound
pub record IsLeaving (t : TableauState) (r : ℕ) : Type 0 where
  pub first : FirstUnclear t (length t.basics) r
  pub bounded : t.vars ≤ basic t r
  pub fits : CrossesFit (row_value t r) (bound t (basic t r))
  pub below : IsLess (row_value t r) (bound t (basic t r))

-- column e is that of the least variable that can raise row r: its coefficient is positive, or it is negative and the variable is free
abbrev pub IsEntering : TableauState → ℕ → ℕ → Type 0
IsEntering t r e = LeastRaising t.columns (row t r) t.vars (length t.columns) e

-- row r is to be raised, and no column can raise it
pub record IsStuck (t : TableauState) (r : ℕ) : Type 0 where
  pub leaving : IsLeaving t r
  pub none : NoneRaises t.columns (row t r) t.vars (length t.columns)

-- ---- a step
-- the variables of row r and column e change places, and the first is left at its bound
pub record IsPivot (t u : TableauState) (r e : ℕ) : Type 0 where
  pub vars_is : u.vars ≡ t.vars
  pub bounds_are : u.bounds ≡ t.bounds
  pub columns_are : u.columns ≡ set t.columns e (basic t r)
  pub basics_are : u.basics ≡ set t.basics r (variable_of_column t e)
  pub solved : IsSolvedRow (row t r) e (row u r)
  pub put : ArePut t.rows (row u r) r e u.rows
  pub shift : Fraction
  pub shift_is : IsShift (bound t (basic t r)) (row_value t r) (coef t r e) shift
  pub entered : HasResult sum (rest t (variable_of_column t e)) shift (row_value u r)
  pub raised : AreRaised t.values t.rows r e shift u.values

-- an operation of the step doesn't fit
pub data StepUnfit (t : TableauState) (r e : ℕ) : Type 0 where
  shift_unfit : ShiftUnfit (bound t (basic t r)) (row_value t r) (coef t r e) → StepUnfit t r e
  entered_unfit : (shift : Fraction) → IsShift (bound t (basic t r)) (row_value t r) (coef t r e) shift → ¬ (OperationFits sum (rest t (variable_of_column t e)) shift) → StepUnfit t r e
  raised_unfit : (shift : Fraction) → IsShift (bound t (basic t r)) (row_value t r) (coef t r e) shift → RaisedUnfitBeside t.values t.rows r e shift → StepUnfit t r e
  solved_unfit : SolvedUnfit (row t r) e → StepUnfit t r e
  put_unfit : (solved : List Fraction) → IsSolvedRow (row t r) e solved → PutUnfitBeside t.rows solved r e → StepUnfit t r e
