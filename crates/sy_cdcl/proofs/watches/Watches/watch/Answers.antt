use Rattle.std.proofs.lemmas.Result.{IfOk-from_err}
use Rattle.sy_cdcl.proofs.watches.Watches.watch.Goals as goal

pub returns-in_err-push-clause-lists : goal.returns-in_err-push-clause-lists
returns-in_err-push-clause-lists c = IfOk-from_err c.from_residual.result _ c.from_residual.ensures.0

pub returns-in_err-push-clause-pairs : goal.returns-in_err-push-clause-pairs
returns-in_err-push-clause-pairs c = IfOk-from_err c.from_residual.result _ c.from_residual.ensures.0

pub returns-in_err-enlist-clause-lists : goal.returns-in_err-enlist-clause-lists
returns-in_err-enlist-clause-lists c = IfOk-from_err c.from_residual-in_err-enlist.result _ c.from_residual-in_err-enlist.ensures.0

pub returns-in_err-enlist-clause-pairs : goal.returns-in_err-enlist-clause-pairs
returns-in_err-enlist-clause-pairs c = IfOk-from_err c.from_residual-in_err-enlist.result _ c.from_residual-in_err-enlist.ensures.0

pub returns-in_err-enlist-2-clause-lists : goal.returns-in_err-enlist-2-clause-lists
returns-in_err-enlist-2-clause-lists c = IfOk-from_err c.from_residual-in_err-enlist-2.result _ c.from_residual-in_err-enlist-2.ensures.0

pub returns-in_err-enlist-2-clause-pairs : goal.returns-in_err-enlist-2-clause-pairs
returns-in_err-enlist-2-clause-pairs c = IfOk-from_err c.from_residual-in_err-enlist-2.result _ c.from_residual-in_err-enlist-2.ensures.0
