use Rattle.std.proofs.Common.{arith, length, ap, ap₂, ◌∙◌}
use Rattle.sy_gates.specs.Circuits.{bit_value, word_number, xor}
use Rattle.sy_gates.specs.Arithmetic.{has_top_bit}
use Rattle.sy_gates.proofs.Gates.{grown-trans}
use Rattle.sy_gates.proofs.Signs.{negated_where}
use Rattle.sy_gates.proofs.circuit.Circuit.signed_quotient.Goals as goal

pub returns-clause-value : goal.returns-clause-value
returns-clause-value c = λ v f.
    let width = length c.args.a.now in
    let at_xor = c.negate_where.ensures.grown.keeps v f in
    let at_divided = c.xor.ensures.grown.keeps v at_xor in
    let second = c.top-2.ensures.value v ∙ ap (λ n. has_top_bit n (word_number v c.args.b.now)) c.requires.same in
    negated_where v width (bit_value v c.in_ok-differ.differ) (xor (has_top_bit width (word_number v c.args.a.now)) (has_top_bit width (word_number v c.args.b.now))) _
    _ c.as_slice.result.now c.in_ok-word.word
    (c.in_ok-differ.ensures.value v at_xor ∙ ap₂ xor (c.top.ensures.value v) second) c.as_slice.ensures c.in_ok-quotient.ensures.quotient_width
    (c.in_ok-quotient.ensures.quotient v at_divided) (c.in_ok-word.ensures.value v f)

pub divide_magnitudes-requires-clause-room : goal.divide_magnitudes-requires-clause-room
divide_magnitudes-requires-clause-room c = omega (arith, c.requires.room)

pub xor-requires-clause-left : goal.xor-requires-clause-left
xor-requires-clause-left c = omega (arith, c.top.ensures.bound, c.requires.left, c.divide_magnitudes.ensures.grown.more)

pub xor-requires-clause-right : goal.xor-requires-clause-right
xor-requires-clause-right c = omega (arith, c.top-2.ensures.bound, c.requires.right, c.divide_magnitudes.ensures.grown.more)

pub xor-requires-clause-room : goal.xor-requires-clause-room
xor-requires-clause-room c = omega (arith, c.in_ok-quotient.ensures.cost, c.requires.room)

pub negate_where-requires-clause-test : goal.negate_where-requires-clause-test
negate_where-requires-clause-test c = c.in_ok-differ.ensures.inside

pub negate_where-requires-clause-word : goal.negate_where-requires-clause-word
negate_where-requires-clause-word c = rw c.as_slice.ensures (omega (arith, c.in_ok-quotient.ensures.quotient_inside, c.xor.ensures.grown.more))

pub negate_where-requires-clause-room : goal.negate_where-requires-clause-room
negate_where-requires-clause-room c = omega (arith, ap length c.as_slice.ensures ∙ c.in_ok-quotient.ensures.quotient_width, c.in_ok-quotient.ensures.cost, c.in_ok-differ.ensures.cost, c.requires.room)

pub returns-in_err-differ-clause-grown : goal.returns-in_err-differ-clause-grown
returns-in_err-differ-clause-grown c = grown-trans _ _ _ c.divide_magnitudes.ensures.grown c.xor.ensures.grown

pub returns-in_err-word-clause-grown : goal.returns-in_err-word-clause-grown
returns-in_err-word-clause-grown c = grown-trans _ _ _ (grown-trans _ _ _ c.divide_magnitudes.ensures.grown c.xor.ensures.grown) c.negate_where.ensures.grown

pub returns-clause-grown : goal.returns-clause-grown
returns-clause-grown c = grown-trans _ _ _ (grown-trans _ _ _ c.divide_magnitudes.ensures.grown c.xor.ensures.grown) c.negate_where.ensures.grown

pub returns-clause-cost : goal.returns-clause-cost
returns-clause-cost c = omega (arith, ap length c.as_slice.ensures ∙ c.in_ok-quotient.ensures.quotient_width, c.in_ok-quotient.ensures.cost, c.in_ok-differ.ensures.cost, c.in_ok-word.ensures.cost)

pub returns-clause-width : goal.returns-clause-width
returns-clause-width c = c.in_ok-word.ensures.width ∙ ap length c.as_slice.ensures ∙ c.in_ok-quotient.ensures.quotient_width

pub returns-clause-inside : goal.returns-clause-inside
returns-clause-inside c = c.in_ok-word.ensures.inside
