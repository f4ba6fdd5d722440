use Rattle.std.proofs.Common.{◌≡◌, ◌≤◌, ◌+◌, ◌*◌, ℕ, Bool, not, ◌&&◌, drop, length}
use Rattle.sy_terms.specs.Values.{same, all_pairs}
use Rattle.sy_gates.specs.Circuits.{variables, FollowsPlan, GrownCircuit, bit_value, bit_bound}
use Rattle.sy_bits_operators.specs.Signals.{signal_values, signal_sorts}
use Rattle.sy_bits_operators.specs.Costs.{same_gates, first_width}
use Rattle.sy_bits_operators.proofs.equality.all_distinct.Given as goal

abbrev pub invariant-loop-i : goal.invariant-loop-i
invariant-loop-i l = record {
  grown : GrownCircuit l.initial.circuit l.circuit;
  cost : variables l.circuit ≤ variables l.initial.circuit + l.i * (length l.signals * same_gates (first_width (signal_sorts l.signals)));
  inside : bit_bound l.all ≤ variables l.circuit;
  value : (v : ℕ → Bool) → FollowsPlan v l.circuit → (bit_value v l.all && all_pairs (λ x y. not (same x y)) (signal_values v (drop l.i l.signals))) ≡ all_pairs (λ x y. not (same x y)) (signal_values v l.signals);
}
