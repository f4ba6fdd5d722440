use Rattle.std.proofs.lemmas.Result.{IfOk-from_err}
use Rattle.sy_linear_known.proofs.queries.variable_sight.Goals as goal

pub returns-in_err-form-in-Int-clause-sight : goal.returns-in_err-form-in-Int-clause-sight
returns-in_err-form-in-Int-clause-sight c = IfOk-from_err c.from_residual.result _ c.from_residual.ensures.0

pub returns-in_err-form-in-Int-clause-fits : goal.returns-in_err-form-in-Int-clause-fits
returns-in_err-form-in-Int-clause-fits c = IfOk-from_err c.from_residual.result _ c.from_residual.ensures.0
