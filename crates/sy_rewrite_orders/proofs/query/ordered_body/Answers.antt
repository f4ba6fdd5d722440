use Rattle.std.proofs.lemmas.Result.{IfOk-from_err}
use Rattle.sy_rewrite_orders.proofs.Replaced.{facts_say}
use Rattle.sy_rewrite_orders.proofs.query.ordered_body.Goals as goal

pub returns-then-is_empty : goal.returns-then-is_empty
returns-then-is_empty g c = rw (← c.in_ok-count.ensures.0) c.in_ok-body.ensures

pub returns : goal.returns
returns g c = rw (← c.in_ok-count.ensures.0) (facts_say _ _ _ _ c.in_ok-body-2.ensures c.in_ok-body.ensures)

pub returns-in_err-count : goal.returns-in_err-count
returns-in_err-count g c = IfOk-from_err c.from_residual.result _ c.from_residual.ensures.0

pub returns-in_err-body : goal.returns-in_err-body
returns-in_err-body g c = IfOk-from_err c.from_residual-in_err-body.result _ c.from_residual-in_err-body.ensures.0

pub returns-in_err-triples : goal.returns-in_err-triples
returns-in_err-triples g c = IfOk-from_err c.from_residual-in_err-triples.result _ c.from_residual-in_err-triples.ensures.0

pub returns-in_err-body-2 : goal.returns-in_err-body-2
returns-in_err-body-2 g c = IfOk-from_err c.from_residual-in_err-body-2.result _ c.from_residual-in_err-body-2.ensures.0
