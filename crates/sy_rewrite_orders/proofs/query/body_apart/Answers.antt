use Rattle.std.proofs.lemmas.Result.{IfOk-from_err}
use Rattle.sy_terms.specs.Denoted.{expr_of, exprs_of}
use Rattle.sy_rewrite_orders.proofs.Replaced.{replaced_says, alike_says}
use Rattle.sy_rewrite_orders.proofs.query.body_apart.Goals as goal

pub returns : goal.returns
returns g c =
    let number = g.T.Theory.denotes in
    let own = replaced_says c.args.count (exprs_of number c.in_ok-names.names.items) (expr_of number c.in_ok-body.body) (expr_of number c.args.body.now) c.in_ok-names.ensures.next c.in_ok-body.ensures.replaced in
    alike_says _ _ _ _ c.in_ok-found.ensures own

pub returns-in_err-names : goal.returns-in_err-names
returns-in_err-names g c = IfOk-from_err c.from_residual.result _ c.from_residual.ensures.0

pub returns-in_err-body : goal.returns-in_err-body
returns-in_err-body g c = IfOk-from_err c.from_residual-in_err-body.result _ c.from_residual-in_err-body.ensures.0

pub returns-in_err-found : goal.returns-in_err-found
returns-in_err-found g c = IfOk-from_err c.from_residual-in_err-found.result _ c.from_residual-in_err-found.ensures.0
