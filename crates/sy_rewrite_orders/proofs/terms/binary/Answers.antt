use Rattle.std.proofs.Common.{ap}
use Rattle.std.proofs.lemmas.Result.{IfOk-from_err}
use Rattle.sy_terms.specs.Expr.{Apply}
use Rattle.sy_terms.specs.Denoted.{expr_of-App}
use Rattle.sy_rewrite_orders.proofs.Meanings.{two_appended}
use Rattle.sy_rewrite_orders.proofs.terms.binary.Goals as goal

pub returns : goal.returns
returns g c =
    rw (expr_of-App)
    (ap (Apply c.args.operator) (two_appended g.T.Theory.denotes _ _ _ c.in_ok-left.left c.in_ok-right.right _ _ c.in_ok-arguments.ensures c.in_ok-push.ensures.ok c.in_ok-push-2.ensures.ok c.in_ok-left.ensures c.in_ok-right.ensures))

pub returns-in_err-arguments : goal.returns-in_err-arguments
returns-in_err-arguments g c = IfOk-from_err c.from_residual.result _ c.from_residual.ensures.0

pub returns-in_err-left : goal.returns-in_err-left
returns-in_err-left g c = IfOk-from_err c.from_residual-in_err-left.result _ c.from_residual-in_err-left.ensures.0

pub returns-in_err-push : goal.returns-in_err-push
returns-in_err-push g c = IfOk-from_err c.from_residual-in_err-push.result _ c.from_residual-in_err-push.ensures.0

pub returns-in_err-right : goal.returns-in_err-right
returns-in_err-right g c = IfOk-from_err c.from_residual-in_err-right.result _ c.from_residual-in_err-right.ensures.0

pub returns-in_err-push-2 : goal.returns-in_err-push-2
returns-in_err-push-2 g c = IfOk-from_err c.from_residual-in_err-push-2.result _ c.from_residual-in_err-push-2.ensures.0
