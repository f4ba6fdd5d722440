use Rattle.std.proofs.Common.{refl}
use Rattle.std.proofs.lemmas.Result.{IfOk-from_err}
use Rattle.sy_linear_known.specs.Operations.{comparison}
use Rattle.sy_linear_known.proofs.Steps.{with_each_next}
use Rattle.sy_linear_known.proofs.comparisons.Comparison.with_each.Goals as goal

pub loop-other-preserved : goal.loop-other-preserved
loop-other-preserved c =
    let l = c.loop-other in
    with_each_next (comparison c.args.self c.args.path.now) l.node c.in_ok-node.node _ _ c.args.first.now c.args.others.now l.other-index c.other-item.result c.loop-other-test.true c.other-item.is refl c.in_ok-node.ensures l.invariant

pub returns-in_err-node : goal.returns-in_err-node
returns-in_err-node c = IfOk-from_err c.from_residual.result _ c.from_residual.ensures.0
