use Rattle.std.proofs.Common.{◌≡◌, ℕ, Bool, ◌+◌, ◌≤◌, map, take}
use Rattle.sy_gates.specs.Circuits.{variables, FollowsPlan, GrownCircuit, bit_value, bit_bound}
use Rattle.sy_gates.specs.Bitwise.{all_joined}
use Rattle.sy_gates.proofs.circuit.Circuit.join_all.Given as goal

abbrev pub invariant-loop-i : goal.invariant-loop-i
invariant-loop-i l = record {
  grown : GrownCircuit l.initial.self l.self;
  cost : variables l.self ≤ variables l.initial.self + l.i;
  inside : bit_bound l.all ≤ variables l.self;
  value : (v : ℕ → Bool) → FollowsPlan v l.self → bit_value v l.all ≡ all_joined l.joint (map (λ b. bit_value v b) (take l.i l.bits));
}
