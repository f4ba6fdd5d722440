use Rattle.std.proofs.Common.{arith, length, ap, sym, ◌∙◌}
use Rattle.sy_gates.specs.Circuits.{bit_value, word_bound}
use Rattle.sy_gates.proofs.Gates.{grown-trans}
use Rattle.sy_gates.proofs.Signs.{zero_or}
use Rattle.sy_gates.proofs.circuit.Circuit.signed_choice.Goals as goal

pub returns-clause-value : goal.returns-clause-value
returns-clause-value c = λ v f.
    let at_equal = c.choose_word.ensures.grown.keeps v f in
    let at_moved = c.equal.ensures.grown.keeps v at_equal in
    zero_or v (bit_value v c.in_ok-nothing.nothing) c.args.rest.now c.in_ok-none.none c.in_ok-moved.moved c.in_ok-word.word c.as_slice.result.now c.as_slice-2.result.now c.as_slice-3.result.now
    _ c.as_slice.ensures c.as_slice-2.ensures c.as_slice-3.ensures
    (c.in_ok-none.ensures.value v) (c.in_ok-moved.ensures.value v at_moved) (c.in_ok-nothing.ensures.value v at_equal) (c.in_ok-word.ensures.value v f)

pub equal-requires-clause-same : goal.equal-requires-clause-same
equal-requires-clause-same c = ap length c.as_slice.ensures ∙ c.in_ok-none.ensures.width

pub equal-requires-clause-left : goal.equal-requires-clause-left
equal-requires-clause-left c = omega (arith, c.requires.rest, c.choice_by_signs.ensures.grown.more)

pub equal-requires-clause-right : goal.equal-requires-clause-right
equal-requires-clause-right c = omega (arith, ap word_bound c.as_slice.ensures, c.in_ok-none.ensures.bound)

pub equal-requires-clause-room : goal.equal-requires-clause-room
equal-requires-clause-room c = omega (arith, c.in_ok-moved.ensures.cost, c.requires.room)

pub choose_word-requires-clause-same : goal.choose_word-requires-clause-same
choose_word-requires-clause-same c = ap length c.as_slice-3.ensures ∙ c.in_ok-moved.ensures.width ∙ sym (ap length c.as_slice-2.ensures ∙ c.in_ok-none.ensures.width)

pub choose_word-requires-clause-left : goal.choose_word-requires-clause-left
choose_word-requires-clause-left c = omega (arith, ap word_bound c.as_slice-2.ensures, c.in_ok-none.ensures.bound)

pub choose_word-requires-clause-right : goal.choose_word-requires-clause-right
choose_word-requires-clause-right c = omega (arith, ap word_bound c.as_slice-3.ensures, c.in_ok-moved.ensures.inside, c.equal.ensures.grown.more)

pub choose_word-requires-clause-room : goal.choose_word-requires-clause-room
choose_word-requires-clause-room c = omega (arith, ap length c.as_slice-2.ensures ∙ c.in_ok-none.ensures.width, c.in_ok-moved.ensures.cost, c.in_ok-nothing.ensures.cost, c.requires.room)

pub returns-in_err-nothing-clause-grown : goal.returns-in_err-nothing-clause-grown
returns-in_err-nothing-clause-grown c = grown-trans _ _ _ c.choice_by_signs.ensures.grown c.equal.ensures.grown

pub returns-in_err-word-clause-grown : goal.returns-in_err-word-clause-grown
returns-in_err-word-clause-grown c = grown-trans _ _ _ (grown-trans _ _ _ c.choice_by_signs.ensures.grown c.equal.ensures.grown) c.choose_word.ensures.grown

pub returns-clause-grown : goal.returns-clause-grown
returns-clause-grown c = grown-trans _ _ _ (grown-trans _ _ _ c.choice_by_signs.ensures.grown c.equal.ensures.grown) c.choose_word.ensures.grown

pub returns-clause-cost : goal.returns-clause-cost
returns-clause-cost c = omega (arith, ap length c.as_slice-2.ensures ∙ c.in_ok-none.ensures.width, c.in_ok-moved.ensures.cost, c.in_ok-nothing.ensures.cost, c.in_ok-word.ensures.cost)

pub returns-clause-width : goal.returns-clause-width
returns-clause-width c = c.in_ok-word.ensures.width ∙ ap length c.as_slice-2.ensures ∙ c.in_ok-none.ensures.width
