use Rattle.std.proofs.lemmas.Result.{IfOk-from_err}
use Rattle.sy_cdcl.proofs.watches.Watches.skip.Goals as goal

pub returns-in_err-push-clause-pairs : goal.returns-in_err-push-clause-pairs
returns-in_err-push-clause-pairs c = IfOk-from_err c.from_residual.result _ c.from_residual.ensures.0
