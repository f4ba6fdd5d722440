-- The basic variables of a tableau, and what they fix.
use Rattle.std.specs.Prelude.{◌≡◌, ℕ, ◌<◌, ◌+◌, List, length, pos, neg_ℤ}
use Rattle.sy_frac.specs.Rational.{◌*ℚ◌, value}
use Rattle.sy_linear_known.specs.declared.form.Form.{Form}
use Rattle.sy_linear_known.specs.Total.{total}
use Rattle.sy_simplex.specs.Operations.{fraction_of_whole}
use Rattle.sy_simplex.specs.Problems.{form}
use Rattle.sy_simplex.specs.Runs.{IsValue}
use Rattle.sy_simplex.specs.States.{TableauState, variable_of_column, basic, coef, row_value, rest}

-- the variable is that of some row
abbrev pub IsBasic : TableauState → ℕ → Type 0
IsBasic t v = (i : ℕ) × (i < length t.basics) × (basic t i ≡ v)

pub record HaveSameBasis (t u : TableauState) : Type 0 where
  pub onto : (v : ℕ) → IsBasic t v → IsBasic u v
  pub back : (v : ℕ) → IsBasic u v → IsBasic t v

-- a variable without a row is at rest: a free one at 0, that of form i at its bound; and a row's variable has the value
-- that its row gives there
pub record IsAtRest (vars : ℕ) (forms : List Form) (t : TableauState) : Type 0 where
  pub free : (v : ℕ) → v < vars → ¬ (IsBasic t v) → IsValue t v (fraction_of_whole (pos 0))
  pub bounded : (i : ℕ) → i < length forms → ¬ (IsBasic t (vars + i)) → IsValue t (vars + i) (fraction_of_whole (neg_ℤ (form forms i).constant))
  pub rows : (i : ℕ) → i < length t.basics → value (row_value t i) ≡ total vars (λ j. value (coef t i j) *ℚ value (rest t (variable_of_column t j)))

-- a variable that has a row in both has one value, and one coefficient of each variable that has a column in both
pub record HaveSameRows (t u : TableauState) : Type 0 where
  pub values : (i k : ℕ) → i < length t.basics → k < length u.basics → basic t i ≡ basic u k → row_value t i ≡ row_value u k
  pub coefs : (i k j l : ℕ) → i < length t.basics → k < length u.basics → j < length t.columns → l < length u.columns → basic t i ≡ basic u k → variable_of_column t j ≡ variable_of_column u l → coef t i j ≡ coef u k l
