use Rattle.std.proofs.Common.{◌≡◌, ℕ, Bool, ◌+◌, ◌*◌, ◌^◌, ◌≤◌, min, length, take}
use Rattle.sy_gates.specs.Circuits.{variables, FollowsPlan, GrownCircuit, bit_value, word_bound, word_number}
use Rattle.sy_gates.specs.Arithmetic.{filled_shift_down}
use Rattle.sy_gates.proofs.circuit.Circuit.filled_shift_down.Given as goal

abbrev pub invariant-loop-i : goal.invariant-loop-i
invariant-loop-i l = record {
  grown : GrownCircuit l.fn.self l.self;
  cost : variables l.self ≤ variables l.fn.self + length l.a * l.i;
  width : length l.word ≡ length l.a;
  step : l.step ≡ min (2 ^ l.i) (length l.a);
  inside : word_bound l.word ≤ variables l.self;
  value : (v : ℕ → Bool) → FollowsPlan v l.self → word_number v l.word ≡ filled_shift_down (length l.a) (bit_value v l.fill) (word_number v l.a) (word_number v (take l.i l.by));
}
