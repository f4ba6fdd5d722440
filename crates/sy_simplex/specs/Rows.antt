-- Rows of a tableau, solved for the variable of a column, and with a solved row put into them.
use Rattle.std.specs.Prelude.{◌≡◌, ◌≢◌, ℕ, ◌<◌, ◌≤◌, ◌<ℤ◌, ◌⊎◌, ◌==◌, List, [], length, cond, pos, get_or}
use Rattle.sy_frac.specs.Fraction.{Fraction, IsLowest}
use Rattle.sy_simplex.specs.Operations.{HasResult, OperationFits, quotient, fraction_of_whole, fraction_opposite, IsPlusProduct, PlusProductUnfit}

-- the coefficient of a column
abbrev pub at : List Fraction → ℕ → Fraction
at coefs j = get_or coefs j (fraction_of_whole (pos 0))

abbrev pub AreLowest : List Fraction → Type 0
AreLowest coefs = (j : ℕ) → j < length coefs → IsLowest (at coefs j)

-- the coefficient of column j in the row `coefs` solved for the variable of column e: there 1 over its coefficient,
-- elsewhere the quotient by its opposite
pub record IsSolvedAt (coefs : List Fraction) (e j : ℕ) (q : Fraction) : Type 0 where
  pub here : j ≡ e → HasResult quotient (fraction_of_whole (pos 1)) (at coefs e) q
  pub elsewhere : j ≢ e → HasResult quotient (at coefs j) (fraction_opposite (at coefs e)) q

pub data SolvedAtUnfit (coefs : List Fraction) (e j : ℕ) : Type 0 where
  here_unfit : j ≡ e → ¬ (OperationFits quotient (fraction_of_whole (pos 1)) (at coefs e)) → SolvedAtUnfit coefs e j
  elsewhere_unfit : j ≢ e → ¬ (OperationFits quotient (at coefs j) (fraction_opposite (at coefs e))) → SolvedAtUnfit coefs e j

-- the row `solved` is the row `coefs` solved for the variable of column e
pub record IsSolvedRow (coefs : List Fraction) (e : ℕ) (solved : List Fraction) : Type 0 where
  pub len : length solved ≡ length coefs
  pub each : (j : ℕ) → j < length coefs → IsSolvedAt coefs e j (at solved j)

-- a quotient of the solved row doesn't fit
pub record SolvedUnfit (coefs : List Fraction) (e : ℕ) : Type 0 where
  pub column : ℕ
  pub below : column < length coefs
  pub unfit : SolvedAtUnfit coefs e column

-- the coefficient of a column, where that of column e is left out
abbrev pub beside : List Fraction → ℕ → ℕ → Fraction
beside coefs e j = cond (j == e) (fraction_of_whole (pos 0)) (at coefs j)

-- the row `new` is the row `coefs` in which the solved row stands for the variable of column e
pub record IsPutRow (coefs solved : List Fraction) (e : ℕ) (new : List Fraction) : Type 0 where
  pub len : length new ≡ length coefs
  pub each : (j : ℕ) → j < length coefs → IsPlusProduct (beside coefs e j) (at coefs e) (at solved j) (at new j)

-- a product or sum of it doesn't fit
pub record PutUnfit (coefs solved : List Fraction) (e : ℕ) : Type 0 where
  pub column : ℕ
  pub below : column < length coefs
  pub unfit : PlusProductUnfit (beside coefs e column) (at coefs e) (at solved column)

-- ---- all rows but one
-- each row but r has the solved row put into it
pub record ArePut (rows : List (List Fraction)) (solved : List Fraction) (r e : ℕ) (new : List (List Fraction)) : Type 0 where
  pub len : length new ≡ length rows
  pub each : (i : ℕ) → i < length rows → i ≢ r → IsPutRow (get_or rows i []) solved e (get_or new i [])

-- in some row but r a product or sum of it doesn't fit
pub record PutUnfitBeside (rows : List (List Fraction)) (solved : List Fraction) (r e : ℕ) : Type 0 where
  pub row : ℕ
  pub below : row < length rows
  pub other : row ≢ r
  pub unfit : PutUnfit (get_or rows row []) solved e

-- each value but that of row r is raised by the row's coefficient of column e times the shift
pub record AreRaised (values : List Fraction) (rows : List (List Fraction)) (r e : ℕ) (shift : Fraction) (new : List Fraction) : Type 0 where
  pub len : length new ≡ length values
  pub each : (i : ℕ) → i < length rows → i ≢ r → IsPlusProduct (at values i) (at (get_or rows i []) e) shift (at new i)

-- in some row but r a product or sum of it doesn't fit
pub record RaisedUnfitBeside (values : List Fraction) (rows : List (List Fraction)) (r e : ℕ) (shift : Fraction) : Type 0 where
  pub row : ℕ
  pub below : row < length rows
  pub other : row ≢ r
  pub unfit : PlusProductUnfit (at values row) (at (get_or rows row []) e) shift

-- ---- the choice of a column
-- the variable of column j can raise a row with these coefficients: its coefficient is positive, or it is negative and the variable is free
abbrev pub Raises : List ℕ → List Fraction → ℕ → ℕ → Type 0
Raises columns coefs vars j = (pos 0 <ℤ (at coefs j).num) ⊎ (((at coefs j).num <ℤ pos 0) × (get_or columns j 0 < vars))

-- none of the first n columns can raise it
abbrev pub NoneRaises : List ℕ → List Fraction → ℕ → ℕ → Type 0
NoneRaises columns coefs vars n = (k : ℕ) → k < n → ¬ (Raises columns coefs vars k)

-- `e` is the column of the least variable among the first n columns that can raise it
pub record LeastRaising (columns : List ℕ) (coefs : List Fraction) (vars n e : ℕ) : Type 0 where
  pub column_below : e < n
  pub raises : Raises columns coefs vars e
  pub least : (k : ℕ) → k < n → Raises columns coefs vars k → get_or columns e 0 ≤ get_or columns k 0
