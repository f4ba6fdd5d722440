use Rattle.std.proofs.Common.{◌≢◌, [], length, get_or}
use Rattle.std.specs.Prelude.{pos}
use Rattle.sy_simplex.specs.Operations.{fraction_of_whole, IsPlusProduct}
use Rattle.sy_simplex.specs.Rows.{at}
use Rattle.sy_simplex.proofs.TableauPlaces.{IsWritten}
use Rattle.sy_simplex.proofs.tableau.raise_others.Given as goal

abbrev pub invariant-loop-at : goal.invariant-loop-at
invariant-loop-at l = IsWritten (fraction_of_whole (pos 0)) (length l.rows) (λ i f. i ≢ l.row → IsPlusProduct (at l.fn.values.items i) (at (get_or l.rows i []) l.column) l.shift f) (at l.fn.values.items) l.values.items l.at
