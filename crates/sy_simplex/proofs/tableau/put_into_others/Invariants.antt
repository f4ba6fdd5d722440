use Rattle.std.proofs.Common.{◌≢◌, [], length, get_or}
use Rattle.sy_simplex.specs.Rows.{IsPutRow}
use Rattle.sy_simplex.proofs.TableauPlaces.{IsWritten}
use Rattle.sy_simplex.proofs.tableau.put_into_others.Given as goal

abbrev pub invariant-loop-at : goal.invariant-loop-at
invariant-loop-at l = IsWritten [] (length l.fn.rows.items) (λ i new. i ≢ l.row → IsPutRow (get_or l.fn.rows.items i []) l.solved l.column new) (λ i. get_or l.fn.rows.items i []) l.rows.items l.at
