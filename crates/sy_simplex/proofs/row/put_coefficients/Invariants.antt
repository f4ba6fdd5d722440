use Rattle.std.proofs.Common.{length}
use Rattle.std.specs.Prelude.{pos}
use Rattle.sy_simplex.specs.Operations.{fraction_of_whole, IsPlusProduct}
use Rattle.sy_simplex.specs.Rows.{at, beside}
use Rattle.sy_simplex.proofs.TableauPlaces.{IsWritten}
use Rattle.sy_simplex.proofs.row.put_coefficients.Given as goal

abbrev pub invariant-loop-at : goal.invariant-loop-at
invariant-loop-at l = IsWritten (fraction_of_whole (pos 0)) (length l.solved) (λ j f. IsPlusProduct (beside l.fn.coefs.items l.column j) l.factor (at l.solved j) f) (beside l.fn.coefs.items l.column) l.coefs.items l.at
