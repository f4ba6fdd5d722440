use Rattle.std.proofs.lemmas.Result.{IfOk-from_err}
use Rattle.sy_cdcl.proofs.watches.Watches.enlist.Goals as goal

pub returns-in_err-push-clause-lists : goal.returns-in_err-push-clause-lists
returns-in_err-push-clause-lists c = IfOk-from_err c.from_residual.result _ c.from_residual.ensures.0
