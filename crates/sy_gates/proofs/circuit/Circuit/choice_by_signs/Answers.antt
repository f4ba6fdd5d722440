use Rattle.std.proofs.Common.{arith, length, ap, sym, ◌∙◌}
use Rattle.sy_gates.specs.Circuits.{bit_value, word_bound}
use Rattle.sy_gates.proofs.Gates.{grown-trans}
use Rattle.sy_gates.proofs.Signs.{chosen_words}
use Rattle.sy_gates.proofs.circuit.Circuit.choice_by_signs.Goals as goal

pub returns-clause-value : goal.returns-clause-value
returns-clause-value c = λ v f.
    let at_xor = c.choose_word.ensures.grown.keeps v f in
    let at_add = c.xor.ensures.grown.keeps v at_xor in
    let at_first = c.add.ensures.grown.keeps v at_add in
    chosen_words v (bit_value v c.args.left) (bit_value v c.args.right) (bit_value v c.in_ok-differ.differ) c.args.rest.now c.args.b.now c.in_ok-signed.signed c.in_ok-other.other c.in_ok-word.word
    c.as_slice.result.now c.as_slice-2.result.now c.as_slice-3.result.now c.as_slice.ensures c.as_slice-2.ensures c.as_slice-3.ensures c.in_ok-signed.ensures.width
    (c.in_ok-signed.ensures.value v at_first) (c.in_ok-other.ensures.value v at_add) (c.in_ok-differ.ensures.value v at_xor) (c.in_ok-word.ensures.value v f)

pub add-requires-clause-same : goal.add-requires-clause-same
add-requires-clause-same c = c.requires.same ∙ sym (ap length c.as_slice.ensures ∙ c.in_ok-signed.ensures.width)

pub add-requires-clause-left : goal.add-requires-clause-left
add-requires-clause-left c = rw c.as_slice.ensures c.in_ok-signed.ensures.inside

pub add-requires-clause-right : goal.add-requires-clause-right
add-requires-clause-right c = omega (arith, c.requires.word, c.negate_where.ensures.grown.more)

pub add-requires-clause-room : goal.add-requires-clause-room
add-requires-clause-room c = omega (arith, ap length c.as_slice.ensures ∙ c.in_ok-signed.ensures.width, c.in_ok-signed.ensures.cost, c.requires.room)

pub xor-requires-clause-left : goal.xor-requires-clause-left
xor-requires-clause-left c = omega (arith, c.requires.left, c.negate_where.ensures.grown.more, c.add.ensures.grown.more)

pub xor-requires-clause-right : goal.xor-requires-clause-right
xor-requires-clause-right c = omega (arith, c.requires.right, c.negate_where.ensures.grown.more, c.add.ensures.grown.more)

pub xor-requires-clause-room : goal.xor-requires-clause-room
xor-requires-clause-room c = omega (arith, ap length c.as_slice.ensures ∙ c.in_ok-signed.ensures.width, c.in_ok-signed.ensures.cost, c.in_ok-other.ensures.cost, c.requires.room)

pub choose_word-requires-clause-same : goal.choose_word-requires-clause-same
choose_word-requires-clause-same c = ap length c.as_slice-3.ensures ∙ sym (ap length c.as_slice.ensures) ∙ sym c.in_ok-other.ensures.width ∙ sym (ap length c.as_slice-2.ensures)

pub choose_word-requires-clause-left : goal.choose_word-requires-clause-left
choose_word-requires-clause-left c = omega (arith, ap word_bound c.as_slice-2.ensures, c.in_ok-other.ensures.inside, c.xor.ensures.grown.more)

pub choose_word-requires-clause-right : goal.choose_word-requires-clause-right
choose_word-requires-clause-right c = omega (arith, ap word_bound c.as_slice-3.ensures, c.in_ok-signed.ensures.inside, c.add.ensures.grown.more, c.xor.ensures.grown.more)

pub choose_word-requires-clause-room : goal.choose_word-requires-clause-room
choose_word-requires-clause-room c =
    omega (arith, ap length c.as_slice.ensures ∙ c.in_ok-signed.ensures.width, ap length c.as_slice-2.ensures, c.in_ok-other.ensures.width, c.in_ok-signed.ensures.cost, c.in_ok-other.ensures.cost, c.in_ok-differ.ensures.cost, c.requires.room)

pub returns-in_err-other-clause-grown : goal.returns-in_err-other-clause-grown
returns-in_err-other-clause-grown c = grown-trans _ _ _ c.negate_where.ensures.grown c.add.ensures.grown

pub returns-in_err-differ-clause-grown : goal.returns-in_err-differ-clause-grown
returns-in_err-differ-clause-grown c = grown-trans _ _ _ (grown-trans _ _ _ c.negate_where.ensures.grown c.add.ensures.grown) c.xor.ensures.grown

pub returns-in_err-word-clause-grown : goal.returns-in_err-word-clause-grown
returns-in_err-word-clause-grown c = grown-trans _ _ _ (grown-trans _ _ _ (grown-trans _ _ _ c.negate_where.ensures.grown c.add.ensures.grown) c.xor.ensures.grown) c.choose_word.ensures.grown

pub returns-clause-grown : goal.returns-clause-grown
returns-clause-grown c = grown-trans _ _ _ (grown-trans _ _ _ (grown-trans _ _ _ c.negate_where.ensures.grown c.add.ensures.grown) c.xor.ensures.grown) c.choose_word.ensures.grown

pub returns-clause-cost : goal.returns-clause-cost
returns-clause-cost c =
    omega (arith, ap length c.as_slice.ensures ∙ c.in_ok-signed.ensures.width, ap length c.as_slice-2.ensures, c.in_ok-other.ensures.width, c.in_ok-signed.ensures.cost, c.in_ok-other.ensures.cost, c.in_ok-differ.ensures.cost, c.in_ok-word.ensures.cost)

pub returns-clause-width : goal.returns-clause-width
returns-clause-width c = c.in_ok-word.ensures.width ∙ ap length c.as_slice-2.ensures ∙ c.in_ok-other.ensures.width ∙ ap length c.as_slice.ensures ∙ c.in_ok-signed.ensures.width
