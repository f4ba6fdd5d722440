use Rattle.std.proofs.Common.{◌∙◌}
use Rattle.std.proofs.lemmas.Result.{IfOk-from_err}
use Rattle.sy_linear_known.specs.Sights.{all_truths}
use Rattle.sy_linear_known.proofs.Valid.{evaluated-told, evaluated-none}
use Rattle.sy_linear_known.proofs.truths.evaluated.Goals as goal

pub returns-in-Some : goal.returns-in-Some
returns-in-Some c = c.told.ensures ∙ evaluated-told c.args.operator.now (all_truths c.args.sights.now) _ c.in-Some.sight c.in-Some.is c.in_ok-sight.ensures

pub returns-in-None : goal.returns-in-None
returns-in-None c = c.told-in-None.ensures ∙ evaluated-none c.args.operator.now (all_truths c.args.sights.now) _ c.in-None.is c.in_ok-sight.ensures

pub returns-in_err-sight : goal.returns-in_err-sight
returns-in_err-sight c = IfOk-from_err c.from_residual.result _ c.from_residual.ensures.0
