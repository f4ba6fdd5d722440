use Rattle.std.proofs.Common.{◌≡◌, ◌+◌, ◌++◌, drop, arith, refl, sym, ap, ap₂, ◌∙◌}
use Rattle.std.proofs.lemmas.Result.{IfOk-from_err}
use Rattle.sy_terms.specs.Values.{Whole}
use Rattle.sy_terms.specs.Expr.{nodes, nodes_of}
use Rattle.sy_terms.specs.Denoted.{expr_of, exprs_of}
use Rattle.sy_linear_known.specs.Sights.{operator_applied}
use Rattle.sy_linear_known.specs.Seen as spec
use Rattle.sy_linear_known.specs.Fitting.{sight_fits, all_fit}
use Rattle.sy_linear_known.proofs.Walking as step
use Rattle.sy_linear_known.proofs.walk.+walk.Goals as goal

-- ---- numbers of nodes
pub walk-overflow_add-next : goal.walk-overflow_add-next
walk-overflow_add-next t c = omega (arith, step.nodes_positive (expr_of Whole c.args.term.now), c.requires.room)

pub walk-overflow_add-next-in-Var : goal.walk-overflow_add-next-in-Var
walk-overflow_add-next-in-Var t c = omega (arith, step.nodes_positive (expr_of Whole c.args.term.now), c.requires.room)

pub walk-overflow_add-next-in-App : goal.walk-overflow_add-next-in-App
walk-overflow_add-next-in-App t c = omega (arith, step.nodes_positive (expr_of Whole c.args.term.now), c.requires.room)

pub walk-overflow_add-next-in-Let : goal.walk-overflow_add-next-in-Let
walk-overflow_add-next-in-Let t c = omega (arith, step.nodes_positive (expr_of Whole c.args.term.now), c.requires.room)

pub walk-returns-in-Const-clause-next : goal.walk-returns-in-Const-clause-next
walk-returns-in-Const-clause-next t c = ap (λ n. c.args.next.now + n) (sym (ap nodes (step.const_is c.args.term.now c.in-Const.value c.in-Const.is)))

pub walk-returns-in_ok-seen-in-Var-clause-next : goal.walk-returns-in_ok-seen-in-Var-clause-next
walk-returns-in_ok-seen-in-Var-clause-next t c = ap (λ n. c.args.next.now + n) (sym (ap nodes (step.var_is c.args.term.now c.in-Var.number c.in-Var.is)))

pub walk-returns-in_ok-seen-in-App-clause-next : goal.walk-returns-in_ok-seen-in-App-clause-next
walk-returns-in_ok-seen-in-App-clause-next t c =
    let all : nodes (expr_of Whole c.args.term.now) ≡ nodes_of (exprs_of Whole c.in-App.arguments.items.items) + 1 = step.app_nodes c.args.term.now c.in-App.operator c.in-App.arguments c.in-App.is in
    let after : c.walk_all.new.next ≡ c.args.next.now + 1 + nodes_of (exprs_of Whole c.in-App.arguments.items.items) = c.in_ok-below-in-App.ensures.next in
    omega (arith, all, after)

pub walk-returns-in-Ok-clause-next : goal.walk-returns-in-Ok-clause-next
walk-returns-in-Ok-clause-next t c =
    let all = step.let_nodes c.args.term.now c.in-Let.bound c.in-Let.inner c.in-Let.is in
    let same = ap (λ u. nodes (expr_of Whole u)) c.deref.ensures in
    omega (arith, all, same, c.in_ok-below-in-Let.ensures.next, c.in-Ok.ensures.next)

-- ---- calls
pub walk-walk_all-requires : goal.walk-walk_all-requires
walk-walk_all-requires t c =
    let all = step.app_nodes c.args.term.now c.in-App.operator c.in-App.arguments c.in-App.is in
    (omega (arith, all, c.decreases), (c.requires.names, omega (arith, all, c.requires.room)))

pub walk-walk_all-requires-in-Let : goal.walk-walk_all-requires-in-Let
walk-walk_all-requires-in-Let t c =
    let all = step.let_nodes c.args.term.now c.in-Let.bound c.in-Let.inner c.in-Let.is in
    (omega (arith, all, c.decreases), (c.requires.names, omega (arith, all, c.requires.room)))

pub walk-walk-requires : goal.walk-walk-requires
walk-walk-requires t c =
    let all = step.let_nodes c.args.term.now c.in-Let.bound c.in-Let.inner c.in-Let.is in
    let same = ap (λ u. nodes (expr_of Whole u)) c.deref.ensures in
    let longer = c.in_ok-found-in-Let.ensures.names ∙ ap (λ ns. ns ++ c.in_ok-below-in-Let.below.sights) c.in_ok-below-in-Let.ensures.names in (
      omega (arith, all, same, c.decreases),
      (
        ap all_fit longer ∙ step.fits-append c.args.names.now.items c.in_ok-below-in-Let.below.sights c.requires.names c.in_ok-below-in-Let.ensures.fits,
        omega (arith, all, same, c.in_ok-below-in-Let.ensures.next, c.requires.room),
      ),
    )

pub walk_all-walk_if-requires : goal.walk_all-walk_if-requires
walk_all-walk_if-requires t c =
    let one = step.nodes_at c.as_slice-term-items.result.now c.loop-term.term-index c.term-item.result c.loop-term-test.true c.term-item.is in
    let left = step.nodes_left c.as_slice-term-items.result.now c.loop-term.term-index c.term-item.result c.loop-term-test.true c.term-item.is in
    let same = ap (λ ts. nodes_of (exprs_of Whole ts)) c.as_slice-term-items.ensures in (
      omega (arith, one, same, c.decreases),
      (
        ap all_fit c.loop-term.invariant.names ∙ c.requires.names,
        omega (arith, left, same, c.loop-term.invariant.next, c.requires.room),
      ),
    )

-- ---- what is found
pub walk-returns-in-Const-clause-seen : goal.walk-returns-in-Const-clause-seen
walk-returns-in-Const-clause-seen t c =
    c.leaf.ensures ∙ ap spec.seen_as c.of_value.ensures.value
    ∙ step.seen-const c.args.vars.now c.args.path.now c.args.names.now.items c.args.next.now c.args.term.now c.in-Const.value c.in-Const.is

pub walk-returns-in_ok-seen-in-Var-clause-seen : goal.walk-returns-in_ok-seen-in-Var-clause-seen
walk-returns-in_ok-seen-in-Var-clause-seen t c =
    c.in_ok-seen-in-Var.ensures.seen ∙ ap (λ ns. spec.variable_seen c.args.vars.now ns c.in-Var.number) c.as_slice.ensures.value
    ∙ step.seen-var c.args.vars.now c.args.path.now c.args.names.now.items c.args.next.now c.args.term.now c.in-Var.number c.in-Var.is

pub walk-returns-in_ok-seen-in-App-clause-seen : goal.walk-returns-in_ok-seen-in-App-clause-seen
walk-returns-in_ok-seen-in-App-clause-seen t c =
    c.in_ok-seen-in-App.ensures.seen
    ∙ step.seen-app c.args.vars.now c.args.path.now c.args.names.now.items c.args.next.now c.args.term.now c.in-App.operator c.in-App.arguments c.in_ok-below-in-App.below
    (operator_applied c.args.path.now c.in-App.operator c.in_ok-below-in-App.below.sights) c.in-App.is
    (c.in_ok-below-in-App.ensures.found ∙ ap (λ choice. spec.all_seen c.args.vars.now c.args.path.now c.args.names.now.items choice (c.args.next.now + 1) spec.nothing_found (exprs_of Whole c.in-App.arguments.items.items)) c.is_choice-choice.ensures)
    refl

pub walk-returns-in-Call-clause-seen : goal.walk-returns-in-Call-clause-seen
walk-returns-in-Call-clause-seen t c =
    c.unfit.ensures
    ∙ step.seen-call c.args.vars.now c.args.path.now c.args.names.now.items c.args.next.now c.args.term.now c.in-Call.field-0 c.in-Call.field-1 c.in-Call.is

pub walk-returns-in-Ok-clause-seen : goal.walk-returns-in-Ok-clause-seen
walk-returns-in-Ok-clause-seen t c =
    c.after.ensures ∙ ap (λ below. spec.after_bound below c.in-Ok.seen) c.in_ok-found-in-Let.ensures.found
    ∙ step.seen-let c.args.vars.now c.args.path.now c.args.names.now.items c.bound_by.new.names.items c.args.next.now c.walk_all-in-Let.new.next c.args.term.now c.in-Let.bound c.in-Let.inner c.in_ok-below-in-Let.below c.in-Ok.seen c.in-Let.is
    c.in_ok-below-in-Let.ensures.found
    (c.in_ok-found-in-Let.ensures.names ∙ ap (λ ns. ns ++ c.in_ok-below-in-Let.below.sights) c.in_ok-below-in-Let.ensures.names)
    c.in_ok-below-in-Let.ensures.next
    (c.in-Ok.ensures.seen ∙ ap (λ u. spec.seen c.args.vars.now c.args.path.now c.bound_by.new.names.items c.walk_all-in-Let.new.next (expr_of Whole u)) c.deref.ensures)

pub walk_all-loop-term-preserved : goal.walk_all-loop-term-preserved
walk_all-loop-term-preserved t c = record {
  kept =
      ap (λ ns. spec.all_seen c.args.vars.now c.args.path.now ns c.args.choice c.walk_if.new.next c.in_ok-found-in-Ok.found (exprs_of Whole (drop (c.loop-term.term-index + 1) c.as_slice-term-items.result.now))) c.in-Ok.ensures.names
      ∙ step.all_seen-next c.args.vars.now c.args.path.now c.loop-term.names.items c.args.choice c.loop-term.next c.walk_if.new.next c.loop-term.found c.in_ok-found-in-Ok.found _ c.in-Ok.seen c.as_slice-term-items.result.now c.loop-term.term-index c.term-item.result c.is_live-live.result
      c.loop-term-test.true c.term-item.is (c.is_live-live.ensures ∙ ap (spec.live c.args.choice) c.as_slice.ensures) c.in-Ok.ensures.seen c.in_ok-found-in-Ok.ensures c.in-Ok.ensures.next c.loop-term.invariant.kept
      ∙ sym (ap (λ ns. spec.all_seen c.args.vars.now c.args.path.now ns c.args.choice c.args.next.now spec.nothing_found (exprs_of Whole c.as_slice-term-items.result.now)) c.in-Ok.ensures.names);
  names = c.in-Ok.ensures.names ∙ c.loop-term.invariant.names;
  next =
      let left = step.nodes_left c.as_slice-term-items.result.now c.loop-term.term-index c.term-item.result c.loop-term-test.true c.term-item.is in
      omega (arith, left, c.loop-term.invariant.next, c.in-Ok.ensures.next);
  fits = ap (λ f. all_fit f.sights) c.in_ok-found-in-Ok.ensures ∙ step.fits-push c.loop-term.found.sights c.in-Ok.seen.sight c.loop-term.invariant.fits c.in-Ok.ensures.fits;
}

pub walk_all-returns-clause-found : goal.walk_all-returns-clause-found
walk_all-returns-clause-found t c =
    step.all_seen-end c.args.vars.now c.args.path.now c.loop-term.names.items c.args.choice c.loop-term.next c.loop-term.found _ c.as_slice-term-items.result.now c.loop-term.term-index c.loop-term-test.false c.loop-term.invariant.kept
    ∙ ap₂ (λ ns ts. spec.all_seen c.args.vars.now c.args.path.now ns c.args.choice c.args.next.now spec.nothing_found (exprs_of Whole ts)) c.loop-term.invariant.names c.as_slice-term-items.ensures

pub walk_all-returns-clause-next : goal.walk_all-returns-clause-next
walk_all-returns-clause-next t c =
    let past = step.nodes_end c.as_slice-term-items.result.now c.loop-term.term-index c.loop-term-test.false in
    let same = ap (λ ts. nodes_of (exprs_of Whole ts)) c.as_slice-term-items.ensures in
    omega (arith, c.loop-term.invariant.next, past, same)

pub walk_all-returns-clause-names : goal.walk_all-returns-clause-names
walk_all-returns-clause-names t c = c.loop-term.invariant.names

-- ---- fits
pub walk_all-returns-clause-fits : goal.walk_all-returns-clause-fits
walk_all-returns-clause-fits t c = c.loop-term.invariant.fits

pub walk-returns-in-Const-clause-fits : goal.walk-returns-in-Const-clause-fits
walk-returns-in-Const-clause-fits t c = ap (λ s. sight_fits s.sight) c.leaf.ensures ∙ c.of_value.ensures.fits

pub walk-returns-in_ok-seen-in-Var-clause-fits : goal.walk-returns-in_ok-seen-in-Var-clause-fits
walk-returns-in_ok-seen-in-Var-clause-fits t c = c.in_ok-seen-in-Var.ensures.fits

pub walk-returns-in_ok-seen-in-App-clause-fits : goal.walk-returns-in_ok-seen-in-App-clause-fits
walk-returns-in_ok-seen-in-App-clause-fits t c = c.in_ok-seen-in-App.ensures.fits

pub walk-returns-in_ok-seen-in-App-clause-names : goal.walk-returns-in_ok-seen-in-App-clause-names
walk-returns-in_ok-seen-in-App-clause-names t c = c.in_ok-below-in-App.ensures.names

pub walk-returns-in-Ok-clause-fits : goal.walk-returns-in-Ok-clause-fits
walk-returns-in-Ok-clause-fits t c = ap (λ s. sight_fits s.sight) c.after.ensures ∙ c.in-Ok.ensures.fits

pub walk-returns-in-Call-clause-fits : goal.walk-returns-in-Call-clause-fits
walk-returns-in-Call-clause-fits t c = ap (λ s. sight_fits s.sight) c.unfit.ensures

pub walk-returns-in_err-seen-in-Var-clause-seen : goal.walk-returns-in_err-seen-in-Var-clause-seen
walk-returns-in_err-seen-in-Var-clause-seen t c = IfOk-from_err c.from_residual.result _ c.from_residual.ensures.0

pub walk-returns-in_err-seen-in-Var-clause-fits : goal.walk-returns-in_err-seen-in-Var-clause-fits
walk-returns-in_err-seen-in-Var-clause-fits t c = IfOk-from_err c.from_residual.result _ c.from_residual.ensures.0

pub walk-returns-in_err-seen-in-Var-clause-names : goal.walk-returns-in_err-seen-in-Var-clause-names
walk-returns-in_err-seen-in-Var-clause-names t c = IfOk-from_err c.from_residual.result _ c.from_residual.ensures.0

pub walk-returns-in_err-seen-in-Var-clause-next : goal.walk-returns-in_err-seen-in-Var-clause-next
walk-returns-in_err-seen-in-Var-clause-next t c = IfOk-from_err c.from_residual.result _ c.from_residual.ensures.0

pub walk-returns-in_err-below-in-App-clause-seen : goal.walk-returns-in_err-below-in-App-clause-seen
walk-returns-in_err-below-in-App-clause-seen t c = IfOk-from_err c.from_residual-in_err-below-in-App.result _ c.from_residual-in_err-below-in-App.ensures.0

pub walk-returns-in_err-below-in-App-clause-fits : goal.walk-returns-in_err-below-in-App-clause-fits
walk-returns-in_err-below-in-App-clause-fits t c = IfOk-from_err c.from_residual-in_err-below-in-App.result _ c.from_residual-in_err-below-in-App.ensures.0

pub walk-returns-in_err-below-in-App-clause-names : goal.walk-returns-in_err-below-in-App-clause-names
walk-returns-in_err-below-in-App-clause-names t c = IfOk-from_err c.from_residual-in_err-below-in-App.result _ c.from_residual-in_err-below-in-App.ensures.0

pub walk-returns-in_err-below-in-App-clause-next : goal.walk-returns-in_err-below-in-App-clause-next
walk-returns-in_err-below-in-App-clause-next t c = IfOk-from_err c.from_residual-in_err-below-in-App.result _ c.from_residual-in_err-below-in-App.ensures.0

pub walk-returns-in_err-seen-in-App-clause-seen : goal.walk-returns-in_err-seen-in-App-clause-seen
walk-returns-in_err-seen-in-App-clause-seen t c = IfOk-from_err c.from_residual-in_err-seen-in-App.result _ c.from_residual-in_err-seen-in-App.ensures.0

pub walk-returns-in_err-seen-in-App-clause-fits : goal.walk-returns-in_err-seen-in-App-clause-fits
walk-returns-in_err-seen-in-App-clause-fits t c = IfOk-from_err c.from_residual-in_err-seen-in-App.result _ c.from_residual-in_err-seen-in-App.ensures.0

pub walk-returns-in_err-seen-in-App-clause-names : goal.walk-returns-in_err-seen-in-App-clause-names
walk-returns-in_err-seen-in-App-clause-names t c = IfOk-from_err c.from_residual-in_err-seen-in-App.result _ c.from_residual-in_err-seen-in-App.ensures.0

pub walk-returns-in_err-seen-in-App-clause-next : goal.walk-returns-in_err-seen-in-App-clause-next
walk-returns-in_err-seen-in-App-clause-next t c = IfOk-from_err c.from_residual-in_err-seen-in-App.result _ c.from_residual-in_err-seen-in-App.ensures.0

pub walk-returns-in_err-below-in-Let-clause-seen : goal.walk-returns-in_err-below-in-Let-clause-seen
walk-returns-in_err-below-in-Let-clause-seen t c = IfOk-from_err c.from_residual-in_err-below-in-Let.result _ c.from_residual-in_err-below-in-Let.ensures.0

pub walk-returns-in_err-below-in-Let-clause-fits : goal.walk-returns-in_err-below-in-Let-clause-fits
walk-returns-in_err-below-in-Let-clause-fits t c = IfOk-from_err c.from_residual-in_err-below-in-Let.result _ c.from_residual-in_err-below-in-Let.ensures.0

pub walk-returns-in_err-below-in-Let-clause-names : goal.walk-returns-in_err-below-in-Let-clause-names
walk-returns-in_err-below-in-Let-clause-names t c = IfOk-from_err c.from_residual-in_err-below-in-Let.result _ c.from_residual-in_err-below-in-Let.ensures.0

pub walk-returns-in_err-below-in-Let-clause-next : goal.walk-returns-in_err-below-in-Let-clause-next
walk-returns-in_err-below-in-Let-clause-next t c = IfOk-from_err c.from_residual-in_err-below-in-Let.result _ c.from_residual-in_err-below-in-Let.ensures.0

pub walk-returns-in_err-found-in-Let-clause-seen : goal.walk-returns-in_err-found-in-Let-clause-seen
walk-returns-in_err-found-in-Let-clause-seen t c = IfOk-from_err c.from_residual-in_err-found-in-Let.result _ c.from_residual-in_err-found-in-Let.ensures.0

pub walk-returns-in_err-found-in-Let-clause-fits : goal.walk-returns-in_err-found-in-Let-clause-fits
walk-returns-in_err-found-in-Let-clause-fits t c = IfOk-from_err c.from_residual-in_err-found-in-Let.result _ c.from_residual-in_err-found-in-Let.ensures.0

pub walk-returns-in_err-found-in-Let-clause-names : goal.walk-returns-in_err-found-in-Let-clause-names
walk-returns-in_err-found-in-Let-clause-names t c = IfOk-from_err c.from_residual-in_err-found-in-Let.result _ c.from_residual-in_err-found-in-Let.ensures.0

pub walk-returns-in_err-found-in-Let-clause-next : goal.walk-returns-in_err-found-in-Let-clause-next
walk-returns-in_err-found-in-Let-clause-next t c = IfOk-from_err c.from_residual-in_err-found-in-Let.result _ c.from_residual-in_err-found-in-Let.ensures.0

pub walk_all-returns-in_err-found-in-Ok-clause-found : goal.walk_all-returns-in_err-found-in-Ok-clause-found
walk_all-returns-in_err-found-in-Ok-clause-found t c = IfOk-from_err c.from_residual.result _ c.from_residual.ensures.0

pub walk_all-returns-in_err-found-in-Ok-clause-fits : goal.walk_all-returns-in_err-found-in-Ok-clause-fits
walk_all-returns-in_err-found-in-Ok-clause-fits t c = IfOk-from_err c.from_residual.result _ c.from_residual.ensures.0

pub walk_all-returns-in_err-found-in-Ok-clause-names : goal.walk_all-returns-in_err-found-in-Ok-clause-names
walk_all-returns-in_err-found-in-Ok-clause-names t c = IfOk-from_err c.from_residual.result _ c.from_residual.ensures.0

pub walk_all-returns-in_err-found-in-Ok-clause-next : goal.walk_all-returns-in_err-found-in-Ok-clause-next
walk_all-returns-in_err-found-in-Ok-clause-next t c = IfOk-from_err c.from_residual.result _ c.from_residual.ensures.0
