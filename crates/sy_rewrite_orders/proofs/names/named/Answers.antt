use Rattle.std.proofs.lemmas.Result.{IfOk-from_err}
use Rattle.sy_terms.specs.Denoted.{expr_of-Const}
use Rattle.sy_rewrite_orders.proofs.Replaced.{name_is, no_name}
use Rattle.sy_rewrite_orders.proofs.names.named.Goals as goal

pub returns-in-None : goal.returns-in-None
returns-in-None g c = rw (expr_of-Const) (no_name g.T.Theory.denotes c.args.names.now c.args.position c.in-None.ensures.lookup.3)

pub returns-in_ok-found-in-Some : goal.returns-in_ok-found-in-Some
returns-in_ok-found-in-Some g c =
    let lookup = c.in-Some.ensures.lookup in
    name_is g.T.Theory.denotes c.args.names.now c.args.position c.in-Some.term.now c.in_ok-found-in-Some.found lookup.3.0 lookup.1 c.in_ok-found-in-Some.ensures

pub returns-in_err-found-in-Some : goal.returns-in_err-found-in-Some
returns-in_err-found-in-Some g c = IfOk-from_err c.from_residual.result _ c.from_residual.ensures.0
