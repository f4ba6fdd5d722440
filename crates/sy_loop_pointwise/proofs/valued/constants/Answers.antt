use Rattle.std.proofs.Common.{subst, arith}
use Rattle.std.proofs.lemmas.List.{take_all}
use Rattle.std.proofs.lemmas.Result.{IfOk-from_err}
use Rattle.sy_terms.specs.Denoted.{exprs_of, vals_of}
use Rattle.sy_loop_pointwise.specs.Valued.{AreConstants}
use Rattle.sy_loop_pointwise.proofs.Values.{constants_none, constants_more}
use Rattle.sy_loop_pointwise.proofs.valued.constants.Goals as goal

pub loop-value-init : goal.loop-value-init
loop-value-init g c = rw (c.in_ok-terms.ensures) (constants_none g.row.T.Denot g.T.Theory.denotes)

pub loop-value-preserved : goal.loop-value-preserved
loop-value-preserved g c =
    let l = c.loop-value in
    rw (c.in_ok-push.ensures.ok) (constants_more g.T.Theory.denotes l.terms.items.items c.args.values.now l.value-index c.value-item.result (omega arith) c.value-item.is l.invariant)

pub returns : goal.returns
returns g c =
    let number = g.T.Theory.denotes in
    subst (λ values. AreConstants (exprs_of number c.loop-value.terms.items.items) (vals_of number values)) (take_all c.loop-value.value-index c.args.values.now (omega arith)) c.loop-value.invariant

pub returns-in_err-terms : goal.returns-in_err-terms
returns-in_err-terms g c = IfOk-from_err c.from_residual.result _ c.from_residual.ensures.0

pub returns-in_err-push : goal.returns-in_err-push
returns-in_err-push g c = IfOk-from_err c.from_residual-in_err-push.result _ c.from_residual-in_err-push.ensures.0
