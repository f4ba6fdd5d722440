use Rattle.std.proofs.lemmas.Result.{IfOk-from_err}
use Rattle.sy_rewrite_orders.proofs.compared.both.Goals as goal

pub returns-in_err-found : goal.returns-in_err-found
returns-in_err-found g c = IfOk-from_err c.from_residual.result _ c.from_residual.ensures.0

pub returns-in_err-found-2 : goal.returns-in_err-found-2
returns-in_err-found-2 g c = IfOk-from_err c.from_residual-in_err-found-2.result _ c.from_residual-in_err-found-2.ensures.0
