use Rattle.std.proofs.Common.{refl}
use Rattle.std.proofs.lemmas.Result.{IfOk-from_err}
use Rattle.sy_terms.specs.Denoted.{expr_of-Let}
use Rattle.sy_rewrite_orders.proofs.written.let_of.Goals as goal

pub returns-then-stand : goal.returns-then-stand
returns-then-stand g c = rw (c.if-stand.true) refl

pub returns : goal.returns
returns g c = rw (c.if-stand.false, expr_of-Let, c.in_ok-inner.ensures.ok) refl

pub returns-in_err-inner : goal.returns-in_err-inner
returns-in_err-inner g c = IfOk-from_err c.from_residual.result _ c.from_residual.ensures.0
