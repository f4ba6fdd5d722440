use Rattle.std.proofs.Common.{◌≡◌, ℕ, Some, slice_get, take}
use Rattle.std.specs.Prelude.{Contains}
use Rattle.sy_loop_pointwise.specs.Denoted.{shape_of, shapes_of}
use Rattle.sy_loop_pointwise.proofs.table.place_of.Given as goal

abbrev pub invariant-loop-number : goal.invariant-loop-number
invariant-loop-number g l = (number : ℕ) → Contains (take l.number-index l.numbers) number → slice_get (shapes_of g.T.Theory.denotes l.fn.shapes) number ≡ Some (shape_of g.T.Theory.denotes l.fn.shape) → ⊥
