use Rattle.std.proofs.Common.{◌≡◌, ◌+◌, ◌*◌, ◌%◌, ◌^◌, ℕ, Bool, take, arith}
use Rattle.sy_gates.specs.Circuits.{word_number}
use Rattle.sy_bits_words.proofs.Fixed.{next-bit, number-fits}
use Rattle.sy_bits_words.proofs.known.fixed_number.Goals as goal

next : (c : goal.After-digit) (v : ℕ → Bool) → word_number v (take (c.loop-i.i + 1) c.args.word.now) ≡ c.loop-i.number + c.digit.result * 2 ^ c.loop-i.i % 2 ^ 64
next c v = rw c.digit.ensures (next-bit c.args.word.now c.loop-i.i c.loop-i.number _ c.in_ok-value.value (omega arith) c.requires c.in_ok-value.ensures c.loop-i.invariant v)

pub loop-i-preserved : goal.loop-i-preserved
loop-i-preserved c = next c

pub overflow_add-number : goal.overflow_add-number
overflow_add-number c =
    let h = number-fits c.args.word.now (c.loop-i.i + 1) (c.loop-i.number + c.digit.result * 2 ^ c.loop-i.i % 2 ^ 64) (omega arith) (next c) in
    omega (arith, h)
