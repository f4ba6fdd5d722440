use Rattle.std.specs.Prelude.{◌+◌, ◌≡◌, drop}
use Rattle.sy_bits_operators.specs.Signals.{total_width}
use Rattle.sy_bits_circuit.proofs.room.room_after.Given as goal

abbrev pub invariant-loop-sort : goal.invariant-loop-sort
invariant-loop-sort l = l.left + total_width l.sorts ≡ l.room + total_width (drop l.sort-index l.sorts)
