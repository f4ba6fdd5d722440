use Rattle.std.proofs.lemmas.Result.{IfOk-from_err}
use Rattle.sy_linear_known.proofs.sight.Sight.copy.Goals as goal

pub returns-in_err-form-in-Linear : goal.returns-in_err-form-in-Linear
returns-in_err-form-in-Linear c = IfOk-from_err c.from_residual.result _ c.from_residual.ensures.0
