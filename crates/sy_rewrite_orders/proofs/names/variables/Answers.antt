use Rattle.std.proofs.Common.{◌≡◌, refl, arith}
use Rattle.std.proofs.lemmas.Result.{IfOk-from_err}
use Rattle.sy_terms_operators.specs.Plain.{are_plain}
use Rattle.sy_rewrite_orders.proofs.Replaced.{none_first, more_first, more_within, all_next}
use Rattle.sy_rewrite_orders.proofs.names.variables.Goals as goal

pub loop-i-init : goal.loop-i-init
unfolding are_plain
loop-i-init g c = rw (c.in_ok-terms.ensures.items) (record { first = none_first c.args.count; plain = refl })

pub loop-i-preserved : goal.loop-i-preserved
loop-i-preserved g c =
    let number = g.T.Theory.denotes in
    rw (c.in_ok-push.ensures.items) (record {
      first = more_first number c.args.count c.loop-i.i _ c.loop-i.terms.items refl c.loop-i.invariant.first;
      plain = more_within number c.args.count c.loop-i.i _ c.loop-i.terms.items refl c.loop-i.invariant.plain;
    })

pub returns-clause-next : goal.returns-clause-next
returns-clause-next g c =
    let e : c.loop-i.i ≡ c.args.many = omega arith in
    all_next c.args.count c.args.many _ (rw e at c.loop-i.invariant.first)

pub returns-clause-plain : goal.returns-clause-plain
returns-clause-plain g c =
    let e : c.loop-i.i ≡ c.args.many = omega arith in
    rw e at c.loop-i.invariant.plain

pub returns-in_err-terms-clause-next : goal.returns-in_err-terms-clause-next
returns-in_err-terms-clause-next g c = IfOk-from_err c.from_residual.result _ c.from_residual.ensures.0

pub returns-in_err-terms-clause-plain : goal.returns-in_err-terms-clause-plain
returns-in_err-terms-clause-plain g c = IfOk-from_err c.from_residual.result _ c.from_residual.ensures.0

pub returns-in_err-push-clause-next : goal.returns-in_err-push-clause-next
returns-in_err-push-clause-next g c = IfOk-from_err c.from_residual-in_err-push.result _ c.from_residual-in_err-push.ensures.0

pub returns-in_err-push-clause-plain : goal.returns-in_err-push-clause-plain
returns-in_err-push-clause-plain g c = IfOk-from_err c.from_residual-in_err-push.result _ c.from_residual-in_err-push.ensures.0
