-- The parts of the initial tableau.
use Rattle.std.specs.Prelude.{◌≡◌, ℕ, ◌<◌, ◌+◌, List, [], length, ℤ, pos, neg_ℤ, get_or}
use Rattle.sy_frac.specs.Fraction.{Fraction, IsInRange}
use Rattle.sy_linear_known.specs.declared.form.Form.{Form}
use Rattle.sy_simplex.specs.Operations.{fraction_of_whole}
use Rattle.sy_simplex.specs.Rows.{at}
use Rattle.sy_simplex.specs.Problems.{coefficient, form}
use Rattle.sy_simplex.specs.Runs.{FormFits}

-- the numbers below n, in order
pub record AreCounted (n : ℕ) (xs : List ℕ) : Type 0 where
  pub len : length xs ≡ n
  pub each : (i : ℕ) → i < n → get_or xs i 0 ≡ i

pub record AreZeros (count : ℕ) (xs : List Fraction) : Type 0 where
  pub len : length xs ≡ count
  pub each : (i : ℕ) → i < count → at xs i ≡ fraction_of_whole (pos 0)

-- the coefficient of each variable
pub record IsFullRow (vars : ℕ) (coefs : List (ℕ × ℤ)) (xs : List Fraction) : Type 0 where
  pub len : length xs ≡ vars
  pub each : (j : ℕ) → j < vars → at xs j ≡ fraction_of_whole (coefficient coefs j)

abbrev pub CoefficientsFit : List (ℕ × ℤ) → Type 0
CoefficientsFit coefs = (k : ℕ) → k < length coefs → IsInRange (get_or coefs k (0, pos 0)).1

abbrev pub FormsFit : List Form → Type 0
FormsFit forms = (i : ℕ) → i < length forms → FormFits (form forms i)

abbrev pub SomeUnfit : List Form → Type 0
SomeUnfit forms = (i : ℕ) × (i < length forms) × ¬ (FormFits (form forms i))

-- rows, their variables and the bounds for the first n forms
pub record IsBegun (vars : ℕ) (forms : List Form) (n : ℕ) (basics : List ℕ) (rows : List (List Fraction)) (bounds : List Fraction) : Type 0 where
  pub basics_length : length basics ≡ n
  pub basics_are : (i : ℕ) → i < n → get_or basics i 0 ≡ vars + i
  pub rows_length : length rows ≡ n
  pub full : (i : ℕ) → i < n → IsFullRow vars (form forms i).coefs (get_or rows i [])
  pub bounds_length : length bounds ≡ n
  pub bounds_are : (i : ℕ) → i < n → at bounds i ≡ fraction_of_whole (neg_ℤ (form forms i).constant)
  pub fit : (i : ℕ) → i < n → FormFits (form forms i)
