use Rattle.std.proofs.Common.{◌≤◌, [], ◌∷◌, subst, sym}
use Rattle.std.proofs.lemmas.Result.{IfOk-from_err}
use Rattle.sy_terms.specs.declared.op.Op.TheVariants as ops
use Rattle.sy_gates.specs.Circuits.{variables, word_bound}
use Rattle.sy_bits_operators.specs.declared.signal.Signal.TheVariants as signals
use Rattle.sy_bits_words.specs.Standing.{StandsFor, IsSumOf}
use Rattle.sy_bits_words.proofs.Laws.{stands-at}
use Rattle.sy_bits_words.proofs.Dividing.{sum-kept, remainder-stands}
use Rattle.sy_bits_words.proofs.division.note_remainder.Goals as goal

pub returns : goal.returns
returns c = λ circuit is all.
    let inside = subst (λ xs. word_bound xs ≤ variables circuit) (sym c.as_slice-quotient.ensures) is.quotient_inside in
    let after = c.in_ok-product.ensures.stand circuit inside is.right all in
    let full = c.in_ok-place.ensures.stand circuit is.left after in
    let kept = sum-kept circuit c.pair_sum.new.words c.enter.new.self ops.BvMul _ c.in-Some.product c.in_ok-place.ensures.longer c.in_ok-place.ensures.kept ((rw c.in-Some.is at c.in_ok-product.ensures.sum) circuit after) in
    let product = subst (λ xs. IsSumOf circuit c.enter.new.self ops.BvMul (signals.Vector xs ∷ signals.Vector c.args.b.now ∷ []) c.in-Some.product) c.as_slice-quotient.ensures kept in
    let dividend = stands-at circuit c.enter.new.self c.in-Some-2.place c.args.a.now c.at.result.now full (rw c.in-Some-2.is at c.in_ok-place.ensures.within) (rw c.in-Some-2.is at c.in_ok-place.ensures.same) c.at.ensures in
    let stands = remainder-stands circuit c.enter.new.self c.args.a.now c.args.b.now c.args.division.now c.at.result.now.sum c.in-Some.product c.in_ok-difference.difference is dividend product c.in_ok-difference.ensures.width c.in_ok-difference.ensures.value in
    c.in_ok-note.ensures circuit (subst (λ xs. StandsFor circuit c.enter.new.self xs c.in_ok-difference.difference) (sym c.as_slice.ensures) stands) full

pub returns-in_err-product : goal.returns-in_err-product
returns-in_err-product c = IfOk-from_err c.from_residual.result _ c.from_residual.ensures.0

pub returns-in_err-place : goal.returns-in_err-place
returns-in_err-place c = IfOk-from_err c.from_residual-in_err-place.result _ c.from_residual-in_err-place.ensures.0

pub returns-in_err-difference : goal.returns-in_err-difference
returns-in_err-difference c = IfOk-from_err c.from_residual-in_err-difference.result _ c.from_residual-in_err-difference.ensures.0

pub returns-in_err-note : goal.returns-in_err-note
returns-in_err-note c = IfOk-from_err c.from_residual-in_err-note.result _ c.from_residual-in_err-note.ensures.0
