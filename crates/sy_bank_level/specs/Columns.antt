-- What stands at one point over several rows, and rows of terms that fit.
use Rattle.std.specs.Prelude.{ℕ, ◌≡◌, List, [], ◌∷◌, length, slice_get, Some}
use Rattle.sy_terms.specs.Values.{Val}
use Rattle.sy_terms.specs.Expr.{Expr, Exprs, Constant, none, more}
use Rattle.sy_terms.specs.Meaning.{Function, value_at_position}
use Rattle.sy_terms.specs.Fitting.{Scope}
use Rattle.sy_terms_operators.specs.Evaluation.{TermFits, TermsFit, HasValue, HaveValues}

-- what the rows have at the place of this number
abbrev pub column : List (List Val) → ℕ → List Val
column [] number = []
column (row ∷ rows) number = value_at_position row number ∷ column rows number

-- constants of these values
abbrev pub constants : List Val → Exprs
constants [] = none
constants (value ∷ values) = more (Constant value) (constants values)

-- each row has so many values
abbrev pub AreSized : ℕ → List (List Val) → Type 0
AreSized count rows = (i : ℕ) (row : List Val) → slice_get rows i ≡ Some row → length row ≡ count

-- the term fits at each point, and so do terms
abbrev pub FitsAt : Scope → List (List Val) → Expr → Type 0
FitsAt scope points term = (k : ℕ) (point : List Val) → slice_get points k ≡ Some point → TermFits scope point term

abbrev pub FitAt : Scope → List (List Val) → Exprs → Type 0
FitAt scope points terms = (k : ℕ) (point : List Val) → slice_get points k ≡ Some point → TermsFit scope point terms

-- a term that fits has these values at the points
pub record HasRow (scope : Scope) (defined : List Function) (points : List (List Val)) (term : Expr) (row : List Val) : Type 0 where
  pub sized : length row ≡ length points
  pub each : (k : ℕ) (point : List Val) → slice_get points k ≡ Some point → HasValue scope defined [] point term (value_at_position row k)

-- terms that fit have these rows
pub record HaveRows (scope : Scope) (defined : List Function) (points : List (List Val)) (terms : Exprs) (rows : List (List Val)) : Type 0 where
  pub sized : AreSized (length points) rows
  pub each : (k : ℕ) (point : List Val) → slice_get points k ≡ Some point → HaveValues scope defined [] point terms (column rows k)
