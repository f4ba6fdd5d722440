use Rattle.std.proofs.lemmas.Result.{IfOk-from_err}
use Rattle.sy_loop.proofs.Choosing.{copied_more}
use Rattle.sy_loop.proofs.level.copied_bodies.Goals as goal

pub loop-kept-preserved : goal.loop-kept-preserved
loop-kept-preserved g c =
    rw c.in_ok-push.ensures.ok
    (copied_more g.T.Theory.denotes c.loop-kept.bodies c.args.chosen.now c.loop-kept.kept-index c.in_ok-copy.copy c.kept-item.result c.loop-kept.invariant c.loop-kept-test.true c.kept-item.is c.in_ok-copy.ensures)

pub returns-in_err-copy : goal.returns-in_err-copy
returns-in_err-copy g c = IfOk-from_err c.from_residual.result _ c.from_residual.ensures.0

pub returns-in_err-push : goal.returns-in_err-push
returns-in_err-push g c = IfOk-from_err c.from_residual-in_err-push.result _ c.from_residual-in_err-push.ensures.0
