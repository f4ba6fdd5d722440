use Rattle.std.proofs.Common.{length, ap, ◌∙◌}
use Rattle.sy_gates.specs.Circuits.{bit_value, word_number}
use Rattle.sy_gates.specs.Arithmetic.{has_top_bit}
use Rattle.sy_gates.proofs.Signs.{moved_words}
use Rattle.sy_gates.proofs.circuit.Circuit.signed_modulo.Goals as goal

pub returns-clause-value : goal.returns-clause-value
returns-clause-value c = λ v f.
    let width = length c.args.a.now in
    let at_divided = c.signed_choice.ensures.grown.keeps v f in
    let second = c.top-2.ensures.value v ∙ ap (λ n. has_top_bit n (word_number v c.args.b.now)) c.requires.same in
    moved_words v width (bit_value v c.top.result) (has_top_bit width (word_number v c.args.a.now)) (bit_value v c.top-2.result) (has_top_bit width (word_number v c.args.b.now)) _ (word_number v c.args.b.now)
    _ c.as_slice.result.now c.in_ok-word.word
    (c.top.ensures.value v) second c.as_slice.ensures c.in_ok-rest.ensures.remainder_width
    (c.in_ok-rest.ensures.remainder v at_divided) (c.in_ok-word.ensures.value v f)
