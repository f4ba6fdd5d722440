use Rattle.std.proofs.Common.{◌≡◌, ◌≤◌, ◌+◌, ◌++◌, Bool, List, drop}
use Rattle.sy_gates.specs.Models.{values_of}
use Rattle.sy_bits_operators.specs.Signals.{signal_sorts, signal_values, signals_bound, total_width, AllHaveSignals}
use Rattle.sy_bits_circuit.specs.Assignments.{assignment}
use Rattle.sy_bits_circuit.proofs.inputs.input_signals.Given as goal

abbrev pub invariant-loop-sort : goal.invariant-loop-sort
invariant-loop-sort l = record {
  count : l.count + total_width (drop l.sort-index l.sorts) ≡ total_width l.sorts;
  have : AllHaveSignals (drop l.sort-index l.sorts);
  sorts : signal_sorts l.signals.items ++ drop l.sort-index l.sorts ≡ l.sorts;
  inside : signals_bound l.signals.items ≤ l.count;
  values : (m : List Bool) → signal_values (values_of m) l.signals.items ++ assignment (drop l.sort-index l.sorts) (drop l.count m) ≡ assignment l.sorts m;
}
