use Rattle.std.proofs.Common.{ap₂, ◌∙◌}
use Rattle.std.proofs.lemmas.Result.{IfOk-from_err}
use Rattle.sy_linear_known.specs.Sights.{both_nodes}
use Rattle.sy_linear_known.proofs.comparisons.equal.Goals as goal

pub returns-in-Ok : goal.returns-in-Ok
returns-in-Ok c = c.both.ensures ∙ ap₂ both_nodes c.in_ok-first.ensures c.in-Ok.ensures

pub returns-in_err-first : goal.returns-in_err-first
returns-in_err-first c = IfOk-from_err c.from_residual.result _ c.from_residual.ensures.0
