use Rattle.std.proofs.Common.{ap}
use Rattle.std.proofs.lemmas.Result.{IfOk-from_err}
use Rattle.sy_terms.specs.Expr.{Apply}
use Rattle.sy_terms.specs.Denoted.{expr_of-App, expr_of-Var}
use Rattle.sy_rewrite_orders.proofs.Meanings.{two_appended}
use Rattle.sy_rewrite_orders.proofs.facts.order.Goals as goal

pub returns : goal.returns
returns g c =
    let number = g.T.Theory.denotes in
    rw (expr_of-App)
    (ap (Apply c.args.operator) (two_appended number _ _ _ _ _ _ _ c.in_ok-sides.ensures c.in_ok-push.ensures.ok c.in_ok-push-2.ensures.ok (expr_of-Var _ number c.args.first) (expr_of-Var _ number c.args.second)))

pub returns-in_err-sides : goal.returns-in_err-sides
returns-in_err-sides g c = IfOk-from_err c.from_residual.result _ c.from_residual.ensures.0

pub returns-in_err-push : goal.returns-in_err-push
returns-in_err-push g c = IfOk-from_err c.from_residual-in_err-push.result _ c.from_residual-in_err-push.ensures.0

pub returns-in_err-push-2 : goal.returns-in_err-push-2
returns-in_err-push-2 g c = IfOk-from_err c.from_residual-in_err-push-2.result _ c.from_residual-in_err-push-2.ensures.0
