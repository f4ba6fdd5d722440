use Rattle.std.proofs.Common.{ap, ◌∙◌}
use Rattle.std.proofs.lemmas.Result.{IfOk-from_err}
use Rattle.sy_linear_known.specs.Fitting.{sight_fits}
use Rattle.sy_linear_known.specs.Operations.{operation_result}
use Rattle.sy_linear_known.proofs.Fitting.{fits-combined}
use Rattle.sy_linear_known.proofs.Steps.{from_left_next, fits-operation}
use Rattle.sy_linear_known.proofs.arithmetic.Operation.folded.Goals as goal

pub loop-sight-preserved : goal.loop-sight-preserved
loop-sight-preserved c = record {
  kept = from_left_next (operation_result c.args.self) c.loop-sight.node c.in_ok-node.node _ c.in-Some.rest.now c.loop-sight.sight-index c.sight-item.result c.loop-sight-test.true c.sight-item.is c.in_ok-node.ensures c.loop-sight.invariant.kept;
  fits = ap (λ n. sight_fits n.sight) c.in_ok-node.ensures ∙ fits-combined (operation_result c.args.self) (fits-operation c.args.self) c.loop-sight.node c.sight-item.result;
}

pub returns-in_err-copy : goal.returns-in_err-copy
returns-in_err-copy c = IfOk-from_err c.from_residual.result _ c.from_residual.ensures.0

pub returns-in_err-node : goal.returns-in_err-node
returns-in_err-node c = IfOk-from_err c.from_residual-in_err-node.result _ c.from_residual-in_err-node.ensures.0
