use Rattle.std.proofs.lemmas.Result.{IfOk-from_err}
use Rattle.sy_bits_words.proofs.known.own_sum.Goals as goal

pub returns-in_err-sum-in-Some-clause-width : goal.returns-in_err-sum-in-Some-clause-width
returns-in_err-sum-in-Some-clause-width c = IfOk-from_err c.from_residual.result _ c.from_residual.ensures.0

pub returns-in_err-sum-in-Some-clause-value : goal.returns-in_err-sum-in-Some-clause-value
returns-in_err-sum-in-Some-clause-value c = IfOk-from_err c.from_residual.result _ c.from_residual.ensures.0

pub returns-in_err-sum-in-None-clause-width : goal.returns-in_err-sum-in-None-clause-width
returns-in_err-sum-in-None-clause-width c = IfOk-from_err c.from_residual-in_err-sum-in-None.result _ c.from_residual-in_err-sum-in-None.ensures.0

pub returns-in_err-sum-in-None-clause-value : goal.returns-in_err-sum-in-None-clause-value
returns-in_err-sum-in-None-clause-value c = IfOk-from_err c.from_residual-in_err-sum-in-None.result _ c.from_residual-in_err-sum-in-None.ensures.0
