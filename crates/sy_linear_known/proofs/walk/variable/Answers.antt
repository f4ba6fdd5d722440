use Rattle.std.proofs.Common.{ap, ◌∙◌}
use Rattle.std.proofs.lemmas.Result.{IfOk-from_err}
use Rattle.sy_linear_known.specs.Fitting.{sight_fits}
use Rattle.sy_linear_known.proofs.Walking.{fits-at}
use Rattle.sy_linear_known.proofs.walk.variable.Goals as goal

pub returns-clause-fits : goal.returns-clause-fits
returns-clause-fits c = ap sight_fits c.in_ok-sight.ensures ∙ fits-at c.args.names.now c.args.number c.requires

pub returns-in_err-sight-clause-seen : goal.returns-in_err-sight-clause-seen
returns-in_err-sight-clause-seen c = IfOk-from_err c.from_residual.result _ c.from_residual.ensures.0

pub returns-in_err-sight-clause-fits : goal.returns-in_err-sight-clause-fits
returns-in_err-sight-clause-fits c = IfOk-from_err c.from_residual.result _ c.from_residual.ensures.0
