use Rattle.std.proofs.Common.{ap}
use Rattle.std.proofs.lemmas.Result.{IfOk-from_err}
use Rattle.sy_terms.specs.Expr.{Apply}
use Rattle.sy_terms.specs.Denoted.{expr_of-App}
use Rattle.sy_terms.specs.declared.op.Op.TheVariants as ops
use Rattle.sy_rewrite_orders.proofs.Meanings.{two_appended}
use Rattle.sy_rewrite_orders.proofs.facts.steps.Goals as goal

pub returns : goal.returns
returns g c =
    rw (expr_of-App)
    (ap (Apply ops.And) (two_appended g.T.Theory.denotes _ _ _ c.in_ok-lower.lower c.in_ok-upper.upper _ _ c.in_ok-both.ensures c.in_ok-push.ensures.ok c.in_ok-push-2.ensures.ok c.in_ok-lower.ensures c.in_ok-upper.ensures))

pub returns-in_err-both : goal.returns-in_err-both
returns-in_err-both g c = IfOk-from_err c.from_residual.result _ c.from_residual.ensures.0

pub returns-in_err-lower : goal.returns-in_err-lower
returns-in_err-lower g c = IfOk-from_err c.from_residual-in_err-lower.result _ c.from_residual-in_err-lower.ensures.0

pub returns-in_err-push : goal.returns-in_err-push
returns-in_err-push g c = IfOk-from_err c.from_residual-in_err-push.result _ c.from_residual-in_err-push.ensures.0

pub returns-in_err-upper : goal.returns-in_err-upper
returns-in_err-upper g c = IfOk-from_err c.from_residual-in_err-upper.result _ c.from_residual-in_err-upper.ensures.0

pub returns-in_err-push-2 : goal.returns-in_err-push-2
returns-in_err-push-2 g c = IfOk-from_err c.from_residual-in_err-push-2.result _ c.from_residual-in_err-push-2.ensures.0
