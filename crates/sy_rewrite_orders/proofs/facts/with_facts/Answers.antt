use Rattle.std.proofs.lemmas.Result.{IfOk-from_err}
use Rattle.sy_terms.specs.Denoted.{expr_of-App}
use Rattle.sy_rewrite_orders.proofs.Meanings.{joined_says}
use Rattle.sy_rewrite_orders.proofs.facts.with_facts.Goals as goal

pub returns : goal.returns
returns g c = rw (expr_of-App) (joined_says g.T.Theory.denotes c.args.term c.loop-triple.parts.items.items c.loop-triple.invariant)

pub returns-in_err-push : goal.returns-in_err-push
returns-in_err-push g c = IfOk-from_err c.from_residual.result _ c.from_residual.ensures.0

pub returns-in_err-add_facts : goal.returns-in_err-add_facts
returns-in_err-add_facts g c = IfOk-from_err c.from_residual-in_err-add_facts.result _ c.from_residual-in_err-add_facts.ensures.0
