use Rattle.std.proofs.Common.{◌∙◌}
use Rattle.sy_bits_circuit.proofs.Words.{number-value}
use Rattle.sy_bits_circuit.proofs.leaves.constant_signal.Goals as goal

pub returns-in_ok-bits-in-Num-clause-value : goal.returns-in_ok-bits-in-Num-clause-value
returns-in_ok-bits-in-Num-clause-value c = λ v.
    rw c.in-Num.is (number-value v c.in_ok-bits-in-Num.bits c.in-Num.word.width c.in-Num.word.bits _ _ c.in-Num.word.is_valid c.in_ok-bits-in-Num.ensures.width (c.from.ensures ∙ c.width.ensures) c.bits.ensures (c.in_ok-bits-in-Num.ensures.value v))
