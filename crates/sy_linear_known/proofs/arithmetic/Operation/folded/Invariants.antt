use Rattle.std.proofs.Common.{◌≡◌, true, drop}
use Rattle.sy_linear_known.specs.Sights.{sights_from_left}
use Rattle.sy_linear_known.specs.Fitting.{sight_fits}
use Rattle.sy_linear_known.specs.Operations.{operation_result}
use Rattle.sy_linear_known.proofs.arithmetic.Operation.folded.Given as goal

abbrev pub invariant-loop-sight : goal.invariant-loop-sight
invariant-loop-sight l = record {
  kept : sights_from_left (operation_result l.self) l.node (drop l.sight-index l.rest) ≡ sights_from_left (operation_result l.self) l.initial.node l.rest;
  fits : sight_fits l.node.sight ≡ true;
}
