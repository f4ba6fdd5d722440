use Rattle.std.proofs.Common.{◌≡◌, take}
use Rattle.sy_bits_circuit.specs.Assignments.{number_of_bits}
use Rattle.sy_bits_circuit.proofs.values.read_number.Given as goal

abbrev pub invariant-loop-i : goal.invariant-loop-i
invariant-loop-i l = l.number ≡ number_of_bits (take l.i l.bits)
