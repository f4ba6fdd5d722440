-- Conflicts.
use Rattle.std.specs.Prelude.{◌≡◌, ℕ, List, Some, slice_get}
use Rattle.sy_clauses.specs.Clauses.{Clause}
use Rattle.sy_clauses.specs.New.{Partial, IsFalse}

-- the clause of this number is false
pub record IsConflict (clauses : List Clause) (values : Partial) (number : ℕ) : Type 0 where
  pub clause : Clause
  pub at : slice_get clauses number ≡ Some clause
  pub all_false : IsFalse values clause
