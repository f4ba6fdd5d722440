use Rattle.std.proofs.Common.{◌≤◌}
use Rattle.sy_gates.specs.Circuits.{variables}
use Rattle.sy_vectors.proofs.gates.is_right.Given as goal

abbrev pub invariant-loop-gate : goal.invariant-loop-gate
invariant-loop-gate g l = 1 ≤ variables l.circuit
