use Rattle.std.proofs.lemmas.Result.{IfOk-from_err}
use Rattle.sy_linear_known.proofs.comparisons.less.Goals as goal

pub returns-in_err-form : goal.returns-in_err-form
returns-in_err-form c = IfOk-from_err c.from_residual.result _ c.from_residual.ensures.0
