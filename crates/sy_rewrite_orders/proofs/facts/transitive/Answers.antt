use Rattle.std.proofs.lemmas.Result.{IfOk-from_err}
use Rattle.sy_terms.specs.Denoted.{expr_of-App}
use Rattle.sy_rewrite_orders.proofs.Meanings.{transitive, two_appended}
use Rattle.sy_rewrite_orders.proofs.facts.transitive.Goals as goal

pub returns : goal.returns
returns g c =
    let parts = two_appended g.T.Theory.denotes _ _ _ c.in_ok-both.both c.in_ok-outer.outer _ _ c.in_ok-parts.ensures c.in_ok-push.ensures.ok c.in_ok-push-2.ensures.ok c.in_ok-both.ensures c.in_ok-outer.ensures in
    rw (expr_of-App, parts) (transitive c.args.of.first c.args.of.second c.args.of.third)

pub returns-in_err-parts : goal.returns-in_err-parts
returns-in_err-parts g c = IfOk-from_err c.from_residual.result _ c.from_residual.ensures.0

pub returns-in_err-both : goal.returns-in_err-both
returns-in_err-both g c = IfOk-from_err c.from_residual-in_err-both.result _ c.from_residual-in_err-both.ensures.0

pub returns-in_err-push : goal.returns-in_err-push
returns-in_err-push g c = IfOk-from_err c.from_residual-in_err-push.result _ c.from_residual-in_err-push.ensures.0

pub returns-in_err-outer : goal.returns-in_err-outer
returns-in_err-outer g c = IfOk-from_err c.from_residual-in_err-outer.result _ c.from_residual-in_err-outer.ensures.0

pub returns-in_err-push-2 : goal.returns-in_err-push-2
returns-in_err-push-2 g c = IfOk-from_err c.from_residual-in_err-push-2.result _ c.from_residual-in_err-push-2.ensures.0
