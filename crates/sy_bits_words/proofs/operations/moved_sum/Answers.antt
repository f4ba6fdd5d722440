use Rattle.std.proofs.lemmas.Result.{IfOk-from_err}
use Rattle.sy_bits_words.proofs.Laws.{stands-at, shl-sum}
use Rattle.sy_bits_words.proofs.operations.moved_sum.Goals as goal

pub returns-clause-sum : goal.returns-clause-sum
returns-clause-sum c = λ circuit all. shl-sum circuit c.enter.new.self c.args.s.now c.at.result.now.sum c.in_ok-zero.zero c.in_ok-moved.moved (stands-at circuit c.enter.new.self c.in-Some-2.place c.args.s.now c.at.result.now all (rw c.in-Some-2.is at c.in_ok-place.ensures.within) (rw c.in-Some-2.is at c.in_ok-place.ensures.same) c.at.ensures) c.in_ok-moved.ensures.width c.args.t.now c.in-Some.by c.factor_of-factor.result c.in-Some.ensures c.factor_of-factor.ensures c.in_ok-zero.ensures.value c.in_ok-moved.ensures.value

pub returns-in_err-place-clause-stand : goal.returns-in_err-place-clause-stand
returns-in_err-place-clause-stand c = IfOk-from_err c.from_residual.result _ c.from_residual.ensures.0

pub returns-in_err-place-clause-sum : goal.returns-in_err-place-clause-sum
returns-in_err-place-clause-sum c = IfOk-from_err c.from_residual.result _ c.from_residual.ensures.0

pub returns-in_err-zero-clause-stand : goal.returns-in_err-zero-clause-stand
returns-in_err-zero-clause-stand c = IfOk-from_err c.from_residual-in_err-zero.result _ c.from_residual-in_err-zero.ensures.0

pub returns-in_err-zero-clause-sum : goal.returns-in_err-zero-clause-sum
returns-in_err-zero-clause-sum c = IfOk-from_err c.from_residual-in_err-zero.result _ c.from_residual-in_err-zero.ensures.0

pub returns-in_err-moved-clause-stand : goal.returns-in_err-moved-clause-stand
returns-in_err-moved-clause-stand c = IfOk-from_err c.from_residual-in_err-moved.result _ c.from_residual-in_err-moved.ensures.0

pub returns-in_err-moved-clause-sum : goal.returns-in_err-moved-clause-sum
returns-in_err-moved-clause-sum c = IfOk-from_err c.from_residual-in_err-moved.result _ c.from_residual-in_err-moved.ensures.0
