-- Points, and the values of terms at them.
use Rattle.std.specs.Prelude.{ℕ, List, [], ◌≡◌, true, false, All, map, slice_get, Some}
use Rattle.sy_terms.specs.Values.{Val}
use Rattle.sy_terms.specs.Expr.{Expr}
use Rattle.sy_terms.specs.Meaning.{Function, meaning, computable}
use Rattle.sy_terms.specs.Theories.{sort_of_value, valid}
use Rattle.sy_terms.specs.declared.sort.Sort.{Sort}

-- each point is a tuple of values of these sorts
abbrev pub ArePointsOf : List Sort → List (List Val) → Type 0
ArePointsOf sorts points = (k : ℕ) (point : List Val) → slice_get points k ≡ Some point → All (λ value. valid value ≡ true) point × (map sort_of_value point ≡ sorts)

-- a term's row: its values at the points, at each of which it is computable
pub record IsRow (defined : List Function) (points : List (List Val)) (term : Expr) (row : List Val) : Type 0 where
  pub computable : All (λ point. computable defined [] point term ≡ true) points
  pub is : row ≡ map (λ point. meaning defined [] point term) points

-- the term isn't computable at the point of this number
pub record IsLostAt (defined : List Function) (points : List (List Val)) (term : Expr) (number : ℕ) : Type 0 where
  pub point : List Val
  pub at : slice_get points number ≡ Some point
  pub lost : computable defined [] point term ≡ false
