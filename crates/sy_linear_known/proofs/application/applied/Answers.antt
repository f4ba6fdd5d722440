use Rattle.std.proofs.Common.{ap, ◌∙◌}
use Rattle.std.proofs.lemmas.Result.{IfOk-from_err}
use Rattle.sy_linear_known.specs.Fitting.{sight_fits}
use Rattle.sy_linear_known.proofs.Fitting.{fits-applied}
use Rattle.sy_linear_known.proofs.application.applied.Goals as goal

pub returns-clause-fits : goal.returns-clause-fits
returns-clause-fits c = ap (λ n. sight_fits n.sight) c.in_ok-node.ensures ∙ fits-applied c.args.path.now c.args.operator.now c.args.sights.now c.requires

pub returns-in_err-node-clause-ok : goal.returns-in_err-node-clause-ok
returns-in_err-node-clause-ok c = IfOk-from_err c.from_residual.result _ c.from_residual.ensures.0

pub returns-in_err-node-clause-fits : goal.returns-in_err-node-clause-fits
returns-in_err-node-clause-fits c = IfOk-from_err c.from_residual.result _ c.from_residual.ensures.0
