use Rattle.std.proofs.Common.{◌≡◌, cond, refl, ap, ◌∙◌}
use Rattle.sy_gates.specs.Circuits.{bit_value, word_number}
use Rattle.sy_gates.proofs.Words.{word_number-below}
use Rattle.sy_gates.proofs.SignMasks.{sign_product}
use Rattle.sy_gates.proofs.circuit.Circuit.times_sign.Goals.{then-sign, else-sign}
use Rattle.sy_gates.proofs.circuit.Circuit.times_sign.Goals as goal

pub returns-clause-value : goal.returns-clause-value
returns-clause-value c = λ v f.
    let minus = ap (word_number v) c.as_slice.ensures ∙ c.in_ok-minus.ensures.value v (c.choose_word.ensures.grown.keeps v f) in
    let other : word_number v c.if-sign.other.now ≡ cond c.args.sign.odd (word_number v c.args.a.now) 0 = elim c.if-sign.branch [
      | then-sign w ↦ rw (w.other-is, w.if-sign.true) refl
      | else-sign w ↦ rw (w.other-is, w.as_slice-other.ensures, w.if-sign.false) (c.in_ok-none.ensures.value v)
    ] in
    sign_product (bit_value v c.args.sign.bit) c.args.sign.odd _ _ _ _ _ (word_number-below v c.args.a.now) minus other (c.in_ok-word.ensures.value v f)
