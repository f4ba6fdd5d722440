use Rattle.std.proofs.Common.{◌∙◌, ap, map}
use Rattle.sy_terms.specs.Values.{Truth}
use Rattle.sy_gates.specs.declared.bitwise.Joint.TheVariants.{Xor}
use Rattle.sy_gates.specs.Bitwise.{all_joined}
use Rattle.sy_gates.specs.Circuits.{bit_value}
use Rattle.sy_bits_operators.proofs.Rows.{joined-Xor}
use Rattle.sy_bits_operators.proofs.truths.exclusive.Goals as goal

pub returns-clause-value : goal.returns-clause-value
returns-clause-value c = λ v f.
    ap Truth (c.in_ok-bit.ensures.value v f
    ∙ ap (λ bs. all_joined Xor (map (λ b. bit_value v b) bs)) c.as_slice.ensures
    ∙ ap (all_joined Xor) (c.in_ok-bits.ensures.value v))
    ∙ joined-Xor v c.args.signals.now c.requires.takes
