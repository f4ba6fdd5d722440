use Rattle.std.proofs.lemmas.Result.{IfOk-from_err}
use Rattle.sy_bits_words.proofs.Laws.{stands-at, neg-sum, not-sum}
use Rattle.sy_bits_words.proofs.operations.single_sum.Goals as goal

pub returns-in_ok-negated-in-BvNeg-clause-sum : goal.returns-in_ok-negated-in-BvNeg-clause-sum
returns-in_ok-negated-in-BvNeg-clause-sum c = λ circuit all. rw c.in-BvNeg.is (neg-sum circuit c.enter.new.self c.args.s.now c.at.result.now.sum c.in_ok-zero-in-BvNeg.zero c.in_ok-negated-in-BvNeg.negated (stands-at circuit c.enter.new.self c.in-Some.place c.args.s.now c.at.result.now all (rw c.in-Some.is at c.in_ok-place.ensures.within) (rw c.in-Some.is at c.in_ok-place.ensures.same) c.at.ensures) c.in_ok-negated-in-BvNeg.ensures.width c.greatest-ones.result c.greatest-ones.ensures c.in_ok-zero-in-BvNeg.ensures.value c.in_ok-negated-in-BvNeg.ensures.value)

pub returns-in_ok-inverted-in-BvNot-clause-sum : goal.returns-in_ok-inverted-in-BvNot-clause-sum
returns-in_ok-inverted-in-BvNot-clause-sum c = λ circuit all. rw c.in-BvNot.is (not-sum circuit c.enter.new.self c.args.s.now c.at.result.now.sum c.in_ok-most-in-BvNot.most c.in_ok-inverted-in-BvNot.inverted (stands-at circuit c.enter.new.self c.in-Some.place c.args.s.now c.at.result.now all (rw c.in-Some.is at c.in_ok-place.ensures.within) (rw c.in-Some.is at c.in_ok-place.ensures.same) c.at.ensures) c.in_ok-inverted-in-BvNot.ensures.width c.greatest-ones.result c.greatest-ones.ensures c.in_ok-most-in-BvNot.ensures.value c.in_ok-inverted-in-BvNot.ensures.value)

pub returns-in_err-place-clause-stand : goal.returns-in_err-place-clause-stand
returns-in_err-place-clause-stand c = IfOk-from_err c.from_residual.result _ c.from_residual.ensures.0

pub returns-in_err-place-clause-sum : goal.returns-in_err-place-clause-sum
returns-in_err-place-clause-sum c = IfOk-from_err c.from_residual.result _ c.from_residual.ensures.0

pub returns-in_err-zero-in-BvNeg-clause-stand : goal.returns-in_err-zero-in-BvNeg-clause-stand
returns-in_err-zero-in-BvNeg-clause-stand c = IfOk-from_err c.from_residual-in_err-zero-in-BvNeg.result _ c.from_residual-in_err-zero-in-BvNeg.ensures.0

pub returns-in_err-zero-in-BvNeg-clause-sum : goal.returns-in_err-zero-in-BvNeg-clause-sum
returns-in_err-zero-in-BvNeg-clause-sum c = IfOk-from_err c.from_residual-in_err-zero-in-BvNeg.result _ c.from_residual-in_err-zero-in-BvNeg.ensures.0

pub returns-in_err-negated-in-BvNeg-clause-stand : goal.returns-in_err-negated-in-BvNeg-clause-stand
returns-in_err-negated-in-BvNeg-clause-stand c = IfOk-from_err c.from_residual-in_err-negated-in-BvNeg.result _ c.from_residual-in_err-negated-in-BvNeg.ensures.0

pub returns-in_err-negated-in-BvNeg-clause-sum : goal.returns-in_err-negated-in-BvNeg-clause-sum
returns-in_err-negated-in-BvNeg-clause-sum c = IfOk-from_err c.from_residual-in_err-negated-in-BvNeg.result _ c.from_residual-in_err-negated-in-BvNeg.ensures.0

pub returns-in_err-most-in-BvNot-clause-stand : goal.returns-in_err-most-in-BvNot-clause-stand
returns-in_err-most-in-BvNot-clause-stand c = IfOk-from_err c.from_residual-in_err-most-in-BvNot.result _ c.from_residual-in_err-most-in-BvNot.ensures.0

pub returns-in_err-most-in-BvNot-clause-sum : goal.returns-in_err-most-in-BvNot-clause-sum
returns-in_err-most-in-BvNot-clause-sum c = IfOk-from_err c.from_residual-in_err-most-in-BvNot.result _ c.from_residual-in_err-most-in-BvNot.ensures.0

pub returns-in_err-inverted-in-BvNot-clause-stand : goal.returns-in_err-inverted-in-BvNot-clause-stand
returns-in_err-inverted-in-BvNot-clause-stand c = IfOk-from_err c.from_residual-in_err-inverted-in-BvNot.result _ c.from_residual-in_err-inverted-in-BvNot.ensures.0

pub returns-in_err-inverted-in-BvNot-clause-sum : goal.returns-in_err-inverted-in-BvNot-clause-sum
returns-in_err-inverted-in-BvNot-clause-sum c = IfOk-from_err c.from_residual-in_err-inverted-in-BvNot.result _ c.from_residual-in_err-inverted-in-BvNot.ensures.0
