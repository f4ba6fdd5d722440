use Rattle.std.proofs.lemmas.Result.{IfOk-from_err}
use Rattle.sy_bits_words.proofs.Joining.{inverted-sum, same-sum}
use Rattle.sy_bits_words.proofs.meets.turned_sum.Goals as goal

pub returns-then-turned-clause-value : goal.returns-then-turned-clause-value
returns-then-turned-clause-value c = λ values n below is.
    rw c.if-turned.true (inverted-sum c.args.width n _ _ _ c.greatest-ones.result below c.greatest-ones.ensures (c.in_ok-most.ensures.value values) is (c.in_ok-inverted.ensures.value values))

pub returns-clause-value : goal.returns-clause-value
returns-clause-value c = λ values n below is.
    rw c.if-turned.false (same-sum c.args.width n _ _ _ (c.in_ok-zero.ensures.value values) is (c.in_ok-same.ensures.value values))

pub returns-in_err-most-clause-width : goal.returns-in_err-most-clause-width
returns-in_err-most-clause-width c = IfOk-from_err c.from_residual.result _ c.from_residual.ensures.0

pub returns-in_err-most-clause-value : goal.returns-in_err-most-clause-value
returns-in_err-most-clause-value c = IfOk-from_err c.from_residual.result _ c.from_residual.ensures.0

pub returns-in_err-inverted-clause-width : goal.returns-in_err-inverted-clause-width
returns-in_err-inverted-clause-width c = IfOk-from_err c.from_residual-in_err-inverted.result _ c.from_residual-in_err-inverted.ensures.0

pub returns-in_err-inverted-clause-value : goal.returns-in_err-inverted-clause-value
returns-in_err-inverted-clause-value c = IfOk-from_err c.from_residual-in_err-inverted.result _ c.from_residual-in_err-inverted.ensures.0

pub returns-in_err-zero-clause-width : goal.returns-in_err-zero-clause-width
returns-in_err-zero-clause-width c = IfOk-from_err c.from_residual-in_err-zero.result _ c.from_residual-in_err-zero.ensures.0

pub returns-in_err-zero-clause-value : goal.returns-in_err-zero-clause-value
returns-in_err-zero-clause-value c = IfOk-from_err c.from_residual-in_err-zero.result _ c.from_residual-in_err-zero.ensures.0

pub returns-in_err-same-clause-width : goal.returns-in_err-same-clause-width
returns-in_err-same-clause-width c = IfOk-from_err c.from_residual-in_err-same.result _ c.from_residual-in_err-same.ensures.0

pub returns-in_err-same-clause-value : goal.returns-in_err-same-clause-value
returns-in_err-same-clause-value c = IfOk-from_err c.from_residual-in_err-same.result _ c.from_residual-in_err-same.ensures.0
