use Rattle.std.proofs.lemmas.Result.{IfOk-from_err}
use Rattle.sy_cdcl.proofs.watches.Watches.change.Goals as goal

pub returns-in_err-enlist-clause-lists : goal.returns-in_err-enlist-clause-lists
returns-in_err-enlist-clause-lists c = IfOk-from_err c.from_residual.result _ c.from_residual.ensures.0

pub returns-in_err-enlist-clause-pairs : goal.returns-in_err-enlist-clause-pairs
returns-in_err-enlist-clause-pairs c = IfOk-from_err c.from_residual.result _ c.from_residual.ensures.0
