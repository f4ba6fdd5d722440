use Rattle.std.proofs.Common.{refl}
use Rattle.std.proofs.lemmas.Result.{IfOk-from_err}
use Rattle.sy_terms.specs.Denoted.{expr_of-App}
use Rattle.sy_query_normal.proofs.chains.with_next.Goals as goal

pub returns : goal.returns
returns c = rw (expr_of-App, c.in_ok-push-2.ensures.ok, c.in_ok-push.ensures.ok, c.in_ok-arguments.ensures, ← c.in_ok-next.ensures) refl

pub returns-in_err-arguments : goal.returns-in_err-arguments
returns-in_err-arguments c = IfOk-from_err c.from_residual.result _ c.from_residual.ensures.0

pub returns-in_err-push : goal.returns-in_err-push
returns-in_err-push c = IfOk-from_err c.from_residual-in_err-push.result _ c.from_residual-in_err-push.ensures.0

pub returns-in_err-next : goal.returns-in_err-next
returns-in_err-next c = IfOk-from_err c.from_residual-in_err-next.result _ c.from_residual-in_err-next.ensures.0

pub returns-in_err-push-2 : goal.returns-in_err-push-2
returns-in_err-push-2 c = IfOk-from_err c.from_residual-in_err-push-2.result _ c.from_residual-in_err-push-2.ensures.0
