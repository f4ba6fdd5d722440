use Rattle.std.proofs.Common.{arith, length, ap, ◌∙◌}
use Rattle.sy_gates.specs.Circuits.{bit_value, word_number}
use Rattle.sy_gates.specs.Arithmetic.{has_top_bit}
use Rattle.sy_gates.proofs.Gates.{grown-trans}
use Rattle.sy_gates.proofs.Signs.{negated_where}
use Rattle.sy_gates.proofs.circuit.Circuit.signed_remainder.Goals as goal

pub returns-clause-value : goal.returns-clause-value
returns-clause-value c = λ v f.
    let width = length c.args.a.now in
    let at_divided = c.negate_where.ensures.grown.keeps v f in
    negated_where v width (bit_value v c.top.result) (has_top_bit width (word_number v c.args.a.now)) _
    _ c.as_slice.result.now c.in_ok-word.word
    (c.top.ensures.value v) c.as_slice.ensures c.in_ok-rest.ensures.remainder_width
    (c.in_ok-rest.ensures.remainder v at_divided) (c.in_ok-word.ensures.value v f)

pub divide_magnitudes-requires-clause-room : goal.divide_magnitudes-requires-clause-room
divide_magnitudes-requires-clause-room c = omega (arith, c.requires.room)

pub negate_where-requires-clause-test : goal.negate_where-requires-clause-test
negate_where-requires-clause-test c = omega (arith, c.top.ensures.bound, c.requires.left, c.divide_magnitudes.ensures.grown.more)

pub negate_where-requires-clause-word : goal.negate_where-requires-clause-word
negate_where-requires-clause-word c = rw c.as_slice.ensures c.in_ok-rest.ensures.remainder_inside

pub negate_where-requires-clause-room : goal.negate_where-requires-clause-room
negate_where-requires-clause-room c = omega (arith, ap length c.as_slice.ensures ∙ c.in_ok-rest.ensures.remainder_width, c.in_ok-rest.ensures.cost, c.requires.room)

pub returns-in_err-word-clause-grown : goal.returns-in_err-word-clause-grown
returns-in_err-word-clause-grown c = grown-trans _ _ _ c.divide_magnitudes.ensures.grown c.negate_where.ensures.grown

pub returns-clause-grown : goal.returns-clause-grown
returns-clause-grown c = grown-trans _ _ _ c.divide_magnitudes.ensures.grown c.negate_where.ensures.grown

pub returns-clause-cost : goal.returns-clause-cost
returns-clause-cost c = omega (arith, ap length c.as_slice.ensures ∙ c.in_ok-rest.ensures.remainder_width, c.in_ok-rest.ensures.cost, c.in_ok-word.ensures.cost)

pub returns-clause-width : goal.returns-clause-width
returns-clause-width c = c.in_ok-word.ensures.width ∙ ap length c.as_slice.ensures ∙ c.in_ok-rest.ensures.remainder_width

pub returns-clause-inside : goal.returns-clause-inside
returns-clause-inside c = c.in_ok-word.ensures.inside
