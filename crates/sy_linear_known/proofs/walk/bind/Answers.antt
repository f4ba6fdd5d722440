use Rattle.std.proofs.lemmas.Result.{IfOk-from_err}
use Rattle.sy_linear_known.proofs.Walking.{bound_more}
use Rattle.sy_linear_known.proofs.walk.bind.Goals as goal

pub loop-sight-preserved : goal.loop-sight-preserved
loop-sight-preserved c =
    let l = c.loop-sight in
    bound_more l.names.items c.push.new.self.items c.args.names.now.items c.args.bound.now l.sight-index c.sight-item.result c.in_ok-copy.copy c.loop-sight-test.true c.sight-item.is c.in_ok-copy.ensures c.in_ok-push.ensures.items l.invariant

pub returns-in_err-copy : goal.returns-in_err-copy
returns-in_err-copy c = IfOk-from_err c.from_residual.result _ c.from_residual.ensures.0

pub returns-in_err-push : goal.returns-in_err-push
returns-in_err-push c = IfOk-from_err c.from_residual-in_err-push.result _ c.from_residual-in_err-push.ensures.0
