use Rattle.std.proofs.Common.{length, ap, ◌∙◌}
use Rattle.sy_gates.specs.Circuits.{word_number}
use Rattle.sy_gates.specs.Arithmetic.{filled_shift_down}
use Rattle.sy_gates.proofs.circuit.Circuit.signed_shift_down.Goals as goal

pub returns-clause-value : goal.returns-clause-value
returns-clause-value c = λ v f.
    c.in_ok-word.ensures.value v f
    ∙ ap (λ sign. filled_shift_down (length c.args.a.now) sign (word_number v c.args.a.now) (word_number v c.args.by.now)) (c.top.ensures.value v)
