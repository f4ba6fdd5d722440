use Rattle.std.proofs.lemmas.Result.{IfOk-from_err}
use Rattle.sy_linear_known.specs.Sights.{all_truths}
use Rattle.sy_linear_known.proofs.Valid.{truths-told, truths-none}
use Rattle.sy_linear_known.proofs.truths.by_truths.Goals as goal

pub returns-in_ok-sight-in-Some : goal.returns-in_ok-sight-in-Some
returns-in_ok-sight-in-Some c = truths-told c.args.operator.now (all_truths c.args.sights.now) _ c.in-Some.values _ c.in_ok-sight-in-Some.sight c.in-Some.is c.in_ok-values.ensures c.as_slice.ensures c.in_ok-sight-in-Some.ensures

pub returns-in-None : goal.returns-in-None
returns-in-None c = truths-none c.args.operator.now (all_truths c.args.sights.now) _ c.in-None.is c.in_ok-values.ensures

pub returns-in_err-values : goal.returns-in_err-values
returns-in_err-values c = IfOk-from_err c.from_residual.result _ c.from_residual.ensures.0

pub returns-in_err-sight-in-Some : goal.returns-in_err-sight-in-Some
returns-in_err-sight-in-Some c = IfOk-from_err c.from_residual-in_err-sight-in-Some.result _ c.from_residual-in_err-sight-in-Some.ensures.0
