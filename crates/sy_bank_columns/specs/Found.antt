-- What is found of rows, place by place.
use Rattle.std.specs.Prelude.{ℕ, ◌≡◌, ◌<◌, true, false, List, [], length, slice_get, Some}
use Rattle.sy_terms.specs.Values.{Val}
use Rattle.sy_terms.specs.Expr.{Exprs}
use Rattle.sy_terms.specs.Operators.{op_value}
use Rattle.sy_terms.specs.Theories.{fits, valid}
use Rattle.sy_terms.specs.Meaning.{Function, all_computable, value_at_position}
use Rattle.sy_terms.specs.declared.op.Op.{Op}
use Rattle.sy_bank_level.specs.Columns.{column}
use Rattle.sy_bank_columns.specs.declared.ends.RowEnd.{RowEnd}
use Rattle.sy_bank_columns.specs.declared.ends.RowEnd.TheVariants.{Lost, Want}

-- the end is a loss at this number, or want of memory
abbrev pub IsLoss : ℕ → RowEnd → Type 0
IsLoss number (Lost point) = point ≡ number
IsLoss number Want = Unit {0}

-- a loss says this of its number
abbrev pub WhereLost : RowEnd → (ℕ → Type 0) → Type 0
WhereLost (Lost point) is = is point
WhereLost Want is = Unit {0}

-- the operator's values at the columns of the rows, each of which fits
pub record IsColumnOf (operator : Op) (rows : List (List Val)) (count : ℕ) (row : List Val) : Type 0 where
  pub sized : length row ≡ count
  pub each : (k : ℕ) → k < count →
      (valid (value_at_position row k) ≡ true) × (fits operator (column rows k) ≡ true) × (value_at_position row k ≡ op_value operator (column rows k))

-- at the point of this number one of the terms isn't computable
pub record IsOneLostAt (defined : List Function) (points : List (List Val)) (terms : Exprs) (number : ℕ) : Type 0 where
  pub point : List Val
  pub at : slice_get points number ≡ Some point
  pub lost : all_computable defined [] point terms ≡ false
