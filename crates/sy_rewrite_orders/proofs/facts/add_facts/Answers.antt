use Rattle.std.proofs.Common.{◌∙◌}
use Rattle.std.proofs.lemmas.Result.{IfOk-from_err}
use Rattle.sy_rewrite_orders.proofs.Meanings.{with_fact}
use Rattle.sy_rewrite_orders.proofs.facts.add_facts.Goals as goal

pub returns : goal.returns
returns g c =
    let number = g.T.Theory.denotes in
    let first = with_fact number c.args.parts.now.items.items c.push.new.self.items.items c.in_ok-fact.fact c.in_ok-push.ensures.ok c.in_ok-fact.ensures in
    let second = with_fact number c.push.new.self.items.items c.push-2.new.self.items.items c.in_ok-fact-2.fact c.in_ok-push-2.ensures.ok c.in_ok-fact-2.ensures in
    λ defined wanted values. second defined wanted values ∙ first defined wanted values

pub returns-in_err-fact : goal.returns-in_err-fact
returns-in_err-fact g c = IfOk-from_err c.from_residual.result _ c.from_residual.ensures.0

pub returns-in_err-push : goal.returns-in_err-push
returns-in_err-push g c = IfOk-from_err c.from_residual-in_err-push.result _ c.from_residual-in_err-push.ensures.0

pub returns-in_err-fact-2 : goal.returns-in_err-fact-2
returns-in_err-fact-2 g c = IfOk-from_err c.from_residual-in_err-fact-2.result _ c.from_residual-in_err-fact-2.ensures.0

pub returns-in_err-push-2 : goal.returns-in_err-push-2
returns-in_err-push-2 g c = IfOk-from_err c.from_residual-in_err-push-2.result _ c.from_residual-in_err-push-2.ensures.0
