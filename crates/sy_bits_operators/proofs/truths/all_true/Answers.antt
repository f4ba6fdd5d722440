use Rattle.std.proofs.Common.{◌∙◌, ap, map}
use Rattle.sy_gates.specs.declared.bitwise.Joint.TheVariants.{And}
use Rattle.sy_gates.specs.Bitwise.{all_joined}
use Rattle.sy_gates.specs.Circuits.{bit_value}
use Rattle.sy_bits_operators.specs.Signals.{signal_values}
use Rattle.sy_bits_operators.proofs.Rows.{joined-And}
use Rattle.sy_bits_operators.proofs.truths.all_true.Goals as goal

pub returns-clause-value : goal.returns-clause-value
returns-clause-value c = λ v f.
    c.in_ok-bit.ensures.value v f
    ∙ ap (λ bs. all_joined And (map (λ b. bit_value v b) bs)) c.as_slice.ensures
    ∙ ap (all_joined And) (c.in_ok-bits.ensures.value v)
    ∙ joined-And (signal_values v c.args.signals.now)
