use Rattle.std.proofs.lemmas.Result.{IfOk-from_err}
use Rattle.sy_cdcl.proofs.trail.Trail.new.Goals as goal

pub returns-in_err-push-clause-empty : goal.returns-in_err-push-clause-empty
returns-in_err-push-clause-empty c = IfOk-from_err c.from_residual.result _ c.from_residual.ensures.0

pub returns-in_err-push-clause-lowest : goal.returns-in_err-push-clause-lowest
returns-in_err-push-clause-lowest c = IfOk-from_err c.from_residual.result _ c.from_residual.ensures.0

pub returns-in_err-push-clause-vars : goal.returns-in_err-push-clause-vars
returns-in_err-push-clause-vars c = IfOk-from_err c.from_residual.result _ c.from_residual.ensures.0

pub returns-in_err-push-clause-assignment : goal.returns-in_err-push-clause-assignment
returns-in_err-push-clause-assignment c = IfOk-from_err c.from_residual.result _ c.from_residual.ensures.0
