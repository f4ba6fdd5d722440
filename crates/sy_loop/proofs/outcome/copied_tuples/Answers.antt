use Rattle.std.proofs.lemmas.Result.{IfOk-from_err}
use Rattle.sy_loop.proofs.outcome.copied_tuples.Goals as goal

pub returns-in_err-values : goal.returns-in_err-values
returns-in_err-values g c = IfOk-from_err c.from_residual.result _ c.from_residual.ensures.0

pub returns-in_err-push : goal.returns-in_err-push
returns-in_err-push g c = IfOk-from_err c.from_residual-in_err-push.result _ c.from_residual-in_err-push.ensures.0
