use Rattle.std.proofs.Common.{◌∙◌, ap, subst, length}
use Rattle.std.proofs.lemmas.Result.{IfOk-from_err}
use Rattle.sy_terms.specs.Denoted.{expr_of}
use Rattle.sy_query_base.specs.Asked.{query_of}
use Rattle.sy_rewrite_orders.specs.Replaced.{SaysTheSameAt}
use Rattle.sy_rewrite_orders.proofs.Replaced.{satisfied_alike}
use Rattle.sy_rewrite_orders.proofs.query.ordered.Goals as goal

pub returns-clause-same : goal.returns-clause-same
returns-clause-same g c =
    let number = g.T.Theory.denotes in
    let same = c.in_ok-vars.ensures ∙ c.as_slice.ensures in
    let says = subst (λ count. SaysTheSameAt count (expr_of number c.in_ok-body.body) (expr_of number c.args.query.now.body)) (c.len.ensures ∙ ap length same) c.in_ok-body.ensures in
    satisfied_alike (query_of number c.args.query.now) (query_of number (record { vars = c.in_ok-vars.vars; body = c.in_ok-body.body })) same says

pub returns-in_err-vars-clause-variables : goal.returns-in_err-vars-clause-variables
returns-in_err-vars-clause-variables g c = IfOk-from_err c.from_residual.result _ c.from_residual.ensures.0

pub returns-in_err-vars-clause-same : goal.returns-in_err-vars-clause-same
returns-in_err-vars-clause-same g c = IfOk-from_err c.from_residual.result _ c.from_residual.ensures.0

pub returns-in_err-body-clause-variables : goal.returns-in_err-body-clause-variables
returns-in_err-body-clause-variables g c = IfOk-from_err c.from_residual-in_err-body.result _ c.from_residual-in_err-body.ensures.0

pub returns-in_err-body-clause-same : goal.returns-in_err-body-clause-same
returns-in_err-body-clause-same g c = IfOk-from_err c.from_residual-in_err-body.result _ c.from_residual-in_err-body.ensures.0
