use Rattle.std.proofs.lemmas.Result.{IfOk-from_err}
use Rattle.sy_bits_words.proofs.operations.one.Goals as goal

pub returns-in_err-sum-in-Vector-clause-stand : goal.returns-in_err-sum-in-Vector-clause-stand
returns-in_err-sum-in-Vector-clause-stand c = IfOk-from_err c.from_residual.result _ c.from_residual.ensures.0

pub returns-in_err-sum-in-Vector-clause-sum : goal.returns-in_err-sum-in-Vector-clause-sum
returns-in_err-sum-in-Vector-clause-sum c = IfOk-from_err c.from_residual.result _ c.from_residual.ensures.0
