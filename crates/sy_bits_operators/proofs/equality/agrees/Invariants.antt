use Rattle.std.proofs.Common.{◌≡◌, ◌≤◌, ◌+◌, ◌*◌, ℕ, Bool, take}
use Rattle.std.specs.List.{list_all}
use Rattle.sy_terms.specs.Values.{same}
use Rattle.sy_gates.specs.Circuits.{variables, FollowsPlan, GrownCircuit, bit_value, bit_bound}
use Rattle.sy_bits_operators.specs.Signals.{signal_value, signal_values, signal_sort, sort_width}
use Rattle.sy_bits_operators.specs.Costs.{same_gates}
use Rattle.sy_bits_operators.proofs.equality.agrees.Given as goal

abbrev pub invariant-loop-i : goal.invariant-loop-i
invariant-loop-i l = record {
  grown : GrownCircuit l.initial.circuit l.circuit;
  cost : variables l.circuit ≤ variables l.initial.circuit + l.i * same_gates (sort_width (signal_sort l.signal));
  inside : bit_bound l.all ≤ variables l.circuit;
  value : (v : ℕ → Bool) → FollowsPlan v l.circuit → bit_value v l.all ≡ list_all (same (signal_value v l.signal)) (signal_values v (take l.i l.others));
}
