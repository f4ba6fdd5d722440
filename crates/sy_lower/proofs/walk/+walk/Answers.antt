use Rattle.std.proofs.Common.{arith, ◌∙◌, refl, ap}
use Rattle.std.proofs.lemmas.List.{take_all}
use Rattle.sy_terms.specs.Values.{Whole}
use Rattle.sy_terms.specs.Denoted.{expr_of, exprs_of, expr_of-Const, expr_of-Var, expr_of-App, expr_of-Call, expr_of-Let}
use Rattle.sy_terms_operators.proofs.Steps.{app-falls, let-falls, all-falls}
use Rattle.sy_lower.proofs.Lists.{taken, pushed, longer_names, cut_off}
use Rattle.sy_lower.proofs.Steps as step
use Rattle.sy_lower.proofs.walk.+walk.Goals as goal

pub walk-returns-in-Const-clause-lowered : goal.walk-returns-in-Const-clause-lowered
walk-returns-in-Const-clause-lowered t c = rw (c.in-Const.is, expr_of-Const) (step.constant _ _ _)

pub walk-returns-in_ok-found-in-Var-clause-lowered : goal.walk-returns-in_ok-found-in-Var-clause-lowered
walk-returns-in_ok-found-in-Var-clause-lowered t c =
    rw (c.in-Var.is, expr_of-Var) (step.variable _ _ _ _ (rw c.as_slice.ensures.value at c.in_ok-found-in-Var.ensures))

pub walk-walk_all-requires : goal.walk-walk_all-requires
walk-walk_all-requires t c =
    let falls = app-falls Whole c.args.term.now c.in-App.operator c.in-App.arguments 0 c.in-App.is in
    rw (c.as_slice-in-App.ensures) (omega (arith, falls, c.decreases))

pub walk-returns-in_ok-found-in-App-clause-lowered : goal.walk-returns-in_ok-found-in-App-clause-lowered
walk-returns-in_ok-found-in-App-clause-lowered t c =
    rw (c.in-App.is, expr_of-App)
    (step.application _ _ _ _ _ _ _ _ (rw c.as_slice-in-App.ensures at c.in_ok-arguments-in-App.ensures.lowered) c.in_ok-found-in-App.ensures)

pub walk-returns-in_ok-found-in-Call-clause-lowered : goal.walk-returns-in_ok-found-in-Call-clause-lowered
walk-returns-in_ok-found-in-Call-clause-lowered t c = step.call _ _ _ _ _ _ (ap (expr_of Whole) c.in-Call.is ∙ expr_of-Call Whole _ _) c.in_ok-found-in-Call.ensures

pub walk-walk_bound-requires : goal.walk-walk_bound-requires
walk-walk_bound-requires t c =
    let falls = let-falls Whole c.args.term.now c.in-Let.bound c.in-Let.inner 0 c.in-Let.is in
    let first = falls.0 in
    rw (c.as_slice-in-Let.ensures) (omega (arith, first, c.decreases))

pub walk-walk-requires : goal.walk-walk-requires
walk-walk-requires t c =
    let falls = let-falls Whole c.args.term.now c.in-Let.bound c.in-Let.inner 0 c.in-Let.is in
    let second = falls.1 in
    rw c.deref.ensures (omega (arith, second, c.decreases))

pub walk-returns-in_ok-found-in-Let-clause-lowered : goal.walk-returns-in_ok-found-in-Let-clause-lowered
walk-returns-in_ok-found-in-Let-clause-lowered t c =
    let inside = rw c.as_slice-in-Let.ensures at c.in_ok-inside-in-Let.ensures.lowered in
    rw (c.in-Let.is, expr_of-Let)
    (step.binding (exprs_of Whole c.args.names.now.items) _ _ _ _ _ _ _ _ inside (longer_names _ _ _ _ c.in_ok-inside-in-Let.ensures.names c.in_ok-append-in-Let.ensures.items) (rw c.deref.ensures at c.in_ok-found-in-Let.ensures.lowered))

pub walk-returns-in_ok-found-in-Let-clause-names : goal.walk-returns-in_ok-found-in-Let-clause-names
walk-returns-in_ok-found-in-Let-clause-names t c =
    cut_off _ _ _ _ _ _ _ c.in_ok-inside-in-Let.ensures.names c.in_ok-append-in-Let.ensures.items c.in_ok-found-in-Let.ensures.names (c.len-outer.ensures ∙ c.args.names.now.ok.0) c.truncate.ensures.items

pub walk_all-loop-term-init : goal.walk_all-loop-term-init
walk_all-loop-term-init t c = record { names = refl; lowered = rw (c.in_ok-all.ensures) (step.all-none _ _) }

pub walk_all-walk-requires : goal.walk_all-walk-requires
walk_all-walk-requires t c =
    let falls = all-falls Whole c.args.terms.now c.loop-term.term-index c.term-item.result 0 c.loop-term-test.true c.term-item.is in
    omega (arith, falls, c.decreases)

pub walk_all-loop-term-preserved : goal.walk_all-loop-term-preserved
walk_all-loop-term-preserved t c = record {
  names = c.in_ok-found.ensures.names ∙ c.loop-term.invariant.names;
  lowered =
      rw (taken c.args.terms.now c.loop-term.term-index c.term-item.result c.loop-term-test.true c.term-item.is, pushed _ _ c.in_ok-found.found c.in_ok-push.ensures.ok)
      (step.all-more (exprs_of Whole c.args.names.now.items) _ _ _ _ _ _ _ c.loop-term.invariant.lowered (rw c.loop-term.invariant.names at c.in_ok-found.ensures.lowered));
}

pub walk_all-returns-clause-lowered : goal.walk_all-returns-clause-lowered
walk_all-returns-clause-lowered t c =
    let all = take_all c.loop-term.term-index c.args.terms.now (omega arith) in
    rw all at c.loop-term.invariant.lowered

pub walk_bound-loop-term-init : goal.walk_bound-loop-term-init
walk_bound-loop-term-init t c = record { names = refl; lowered = rw (c.in_ok-all.ensures.items) (step.bound-none _ _) }

pub walk_bound-walk-requires : goal.walk_bound-walk-requires
walk_bound-walk-requires t c =
    let falls = all-falls Whole c.args.bound.now c.loop-term.term-index c.term-item.result 0 c.loop-term-test.true c.term-item.is in
    omega (arith, falls, c.decreases)

pub walk_bound-loop-term-preserved : goal.walk_bound-loop-term-preserved
walk_bound-loop-term-preserved t c = record {
  names = c.in_ok-found.ensures.names ∙ c.loop-term.invariant.names;
  lowered =
      rw (taken c.args.bound.now c.loop-term.term-index c.term-item.result c.loop-term-test.true c.term-item.is, pushed _ _ c.in_ok-name.name c.in_ok-push.ensures.items)
      (step.bound-more (exprs_of Whole c.args.names.now.items) _ _ _ _ _ _ _ _ _ c.loop-term.invariant.lowered (rw c.loop-term.invariant.names at c.in_ok-found.ensures.lowered) c.in_ok-name.ensures);
}

pub walk_bound-returns-clause-lowered : goal.walk_bound-returns-clause-lowered
walk_bound-returns-clause-lowered t c =
    let all = take_all c.loop-term.term-index c.args.bound.now (omega arith) in
    rw all at c.loop-term.invariant.lowered
