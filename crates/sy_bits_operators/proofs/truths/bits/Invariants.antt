use Rattle.std.proofs.Common.{◌≡◌, ◌≤◌, ℕ, Bool, map, length, take}
use Rattle.sy_terms.specs.Values.{truth}
use Rattle.sy_gates.specs.Circuits.{bit_value, word_bound}
use Rattle.sy_bits_operators.specs.Signals.{signal_values, signals_bound}
use Rattle.sy_bits_operators.proofs.truths.bits.Given as goal

abbrev pub invariant-loop-i : goal.invariant-loop-i
invariant-loop-i l = record {
  length : length l.all ≡ l.i;
  bound : word_bound l.all ≤ signals_bound l.signals;
  value : (v : ℕ → Bool) → map (λ b. bit_value v b) l.all ≡ map truth (signal_values v (take l.i l.signals));
}
