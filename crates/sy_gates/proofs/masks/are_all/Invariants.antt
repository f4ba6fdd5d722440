use Rattle.std.proofs.Common.{◌≡◌, ℕ, Bool, ◌-◌, ◌^◌, cond, take}
use Rattle.sy_gates.specs.Circuits.{lit_value, word_number}
use Rattle.sy_gates.proofs.masks.are_all.Given as goal

abbrev pub invariant-loop-bit : goal.invariant-loop-bit
invariant-loop-bit l = (v : ℕ → Bool) → word_number v (take l.bit-index l.bits) ≡ cond (lit_value v l.literal) (2 ^ l.bit-index - 1) 0
