use Rattle.std.proofs.Common.{◌<◌, ◌-◌, ◌^◌, length, arith, refl}
use Rattle.std.proofs.lemmas.Result.{IfOk-from_err}
use Rattle.sy_bits_sums.proofs.Agreeing.{multiple-less}
use Rattle.sy_bits_words.proofs.Laws.{stands-at, kept-at}
use Rattle.sy_bits_words.proofs.Equalities.{sides-equal}
use Rattle.sy_bits_words.proofs.equality.word_sides.Goals as goal

pub returns-clause-equal : goal.returns-clause-equal
returns-clause-equal c = λ circuit all.
    let h : c.in-Some.first < length c.enter.new.self = rw c.in-Some.is at c.in_ok-first.ensures.within in
    let left = stands-at circuit c.enter-2.new.self c.in-Some.first c.args.s.now c.at.result.now all (omega (arith, h, c.in_ok-second.ensures.longer)) (kept-at c.enter.new.self c.enter-2.new.self c.in-Some.first c.args.s.now c.in_ok-second.ensures.kept h (rw c.in-Some.is at c.in_ok-first.ensures.same)) c.at.ensures in
    let right = stands-at circuit c.enter-2.new.self c.in-Some-2.second c.args.t.now c.at-2.result.now all (rw c.in-Some-2.is at c.in_ok-second.ensures.within) (rw c.in-Some-2.is at c.in_ok-second.ensures.same) c.at-2.ensures in
    rw c.in_ok-list.ensures (sides-equal circuit c.enter-2.new.self c.args.s.now c.args.t.now c.in-Some-3.positive c.in-Some-4.negative c.at.result.now.sum c.at-2.result.now.sum c.in_ok-difference.difference c.in_ok-sides.sides.left c.in_ok-sides.sides.right (2 ^ length c.args.s.now - 1) c.requires.same left right refl (λ values. multiple-less (length c.args.s.now) _ _ _ _ refl (c.in_ok-difference.ensures.value values)) c.in_ok-sides.ensures.left c.in_ok-sides.ensures.right c.in_ok-sides.ensures.value
    ((rw c.in-Some-3.is at c.in_ok-positive.ensures.stands) circuit all) ((rw c.in-Some-4.is at c.in_ok-negative.ensures.stands) circuit all))

pub returns-in_err-first-clause-stand : goal.returns-in_err-first-clause-stand
returns-in_err-first-clause-stand c = IfOk-from_err c.from_residual.result _ c.from_residual.ensures.0

pub returns-in_err-first-clause-equal : goal.returns-in_err-first-clause-equal
returns-in_err-first-clause-equal c = IfOk-from_err c.from_residual.result _ c.from_residual.ensures.0

pub returns-in_err-second-clause-stand : goal.returns-in_err-second-clause-stand
returns-in_err-second-clause-stand c = IfOk-from_err c.from_residual-in_err-second.result _ c.from_residual-in_err-second.ensures.0

pub returns-in_err-second-clause-equal : goal.returns-in_err-second-clause-equal
returns-in_err-second-clause-equal c = IfOk-from_err c.from_residual-in_err-second.result _ c.from_residual-in_err-second.ensures.0

pub returns-in_err-difference-clause-stand : goal.returns-in_err-difference-clause-stand
returns-in_err-difference-clause-stand c = IfOk-from_err c.from_residual-in_err-difference.result _ c.from_residual-in_err-difference.ensures.0

pub returns-in_err-difference-clause-equal : goal.returns-in_err-difference-clause-equal
returns-in_err-difference-clause-equal c = IfOk-from_err c.from_residual-in_err-difference.result _ c.from_residual-in_err-difference.ensures.0

pub returns-in_err-sides-clause-stand : goal.returns-in_err-sides-clause-stand
returns-in_err-sides-clause-stand c = IfOk-from_err c.from_residual-in_err-sides.result _ c.from_residual-in_err-sides.ensures.0

pub returns-in_err-sides-clause-equal : goal.returns-in_err-sides-clause-equal
returns-in_err-sides-clause-equal c = IfOk-from_err c.from_residual-in_err-sides.result _ c.from_residual-in_err-sides.ensures.0

pub returns-in_err-positive-clause-stand : goal.returns-in_err-positive-clause-stand
returns-in_err-positive-clause-stand c = IfOk-from_err c.from_residual-in_err-positive.result _ c.from_residual-in_err-positive.ensures.0

pub returns-in_err-positive-clause-equal : goal.returns-in_err-positive-clause-equal
returns-in_err-positive-clause-equal c = IfOk-from_err c.from_residual-in_err-positive.result _ c.from_residual-in_err-positive.ensures.0

pub returns-in_err-negative-clause-stand : goal.returns-in_err-negative-clause-stand
returns-in_err-negative-clause-stand c = IfOk-from_err c.from_residual-in_err-negative.result _ c.from_residual-in_err-negative.ensures.0

pub returns-in_err-negative-clause-equal : goal.returns-in_err-negative-clause-equal
returns-in_err-negative-clause-equal c = IfOk-from_err c.from_residual-in_err-negative.result _ c.from_residual-in_err-negative.ensures.0

pub returns-in_err-list-clause-stand : goal.returns-in_err-list-clause-stand
returns-in_err-list-clause-stand c = IfOk-from_err c.from_residual-in_err-list.result _ c.from_residual-in_err-list.ensures.0

pub returns-in_err-list-clause-equal : goal.returns-in_err-list-clause-equal
returns-in_err-list-clause-equal c = IfOk-from_err c.from_residual-in_err-list.result _ c.from_residual-in_err-list.ensures.0
