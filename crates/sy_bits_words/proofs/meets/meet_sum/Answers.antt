use Rattle.std.proofs.Common.{ℕ, bit_and}
use Rattle.std.proofs.lemmas.Result.{IfOk-from_err}
use Rattle.sy_bits_sums.specs.Polynomials.{total}
use Rattle.sy_bits_sums.proofs.Agreeing.{agree-same, agree-trans}
use Rattle.sy_bits_words.specs.Standing.{turned_number}
use Rattle.sy_bits_words.proofs.Joining.{turned-below, turned-left, turned-right}
use Rattle.sy_bits_words.proofs.meets.meet_sum.Goals as goal

pub returns-clause-value : goal.returns-clause-value
returns-clause-value c = λ values m n small-m small-n first second at.
    let w = c.args.width in
    let p : ℕ = turned_number c.args.width c.args.meet.now.left m in
    let q : ℕ = turned_number c.args.width c.args.meet.now.right n in
    let small-p = turned-below w c.args.meet.now.left m small-m in
    let place = agree-trans w (total values c.in_ok-place.place.monomials.items) (values c.args.meet.now.place) (bit_and p q) (c.in_ok-place.ensures.value values) (agree-same w (values c.args.meet.now.place) (bit_and p q) at) in
    let inner = c.in_ok-inner.ensures.value values (bit_and p n) (bit_and p q) p (c.in_ok-first.ensures.value values m small-m first) place (turned-right w c.args.meet.now.right p n small-p small-n) in
    c.in_ok-outer.ensures.value values (bit_and m n) (bit_and p n) n second inner (turned-left w c.args.meet.now.left m n small-m small-n)

pub returns-in_err-place-clause-width : goal.returns-in_err-place-clause-width
returns-in_err-place-clause-width c = IfOk-from_err c.from_residual.result _ c.from_residual.ensures.0

pub returns-in_err-place-clause-value : goal.returns-in_err-place-clause-value
returns-in_err-place-clause-value c = IfOk-from_err c.from_residual.result _ c.from_residual.ensures.0

pub returns-in_err-first-clause-width : goal.returns-in_err-first-clause-width
returns-in_err-first-clause-width c = IfOk-from_err c.from_residual-in_err-first.result _ c.from_residual-in_err-first.ensures.0

pub returns-in_err-first-clause-value : goal.returns-in_err-first-clause-value
returns-in_err-first-clause-value c = IfOk-from_err c.from_residual-in_err-first.result _ c.from_residual-in_err-first.ensures.0

pub returns-in_err-inner-clause-width : goal.returns-in_err-inner-clause-width
returns-in_err-inner-clause-width c = IfOk-from_err c.from_residual-in_err-inner.result _ c.from_residual-in_err-inner.ensures.0

pub returns-in_err-inner-clause-value : goal.returns-in_err-inner-clause-value
returns-in_err-inner-clause-value c = IfOk-from_err c.from_residual-in_err-inner.result _ c.from_residual-in_err-inner.ensures.0

pub returns-in_err-outer-clause-width : goal.returns-in_err-outer-clause-width
returns-in_err-outer-clause-width c = IfOk-from_err c.from_residual-in_err-outer.result _ c.from_residual-in_err-outer.ensures.0

pub returns-in_err-outer-clause-value : goal.returns-in_err-outer-clause-value
returns-in_err-outer-clause-value c = IfOk-from_err c.from_residual-in_err-outer.result _ c.from_residual-in_err-outer.ensures.0
