use Rattle.std.proofs.Common.{refl, sym, arith, ◌∙◌}
use Rattle.sy_terms.specs.Denoted.{expr_of-Const, expr_of-Var, expr_of-App, expr_of-Call, expr_of-Let}
use Rattle.sy_lower_laws.specs.Lowering.{same_expr}
use Rattle.sy_lower.proofs.Comparing as step
use Rattle.sy_lower.proofs.same.+same.Goals as goal

pub same_term-returns-in-Const : goal.same_term-returns-in-Const
same_term-returns-in-Const t c = rw (c.in-Const.is, expr_of-Const) c.is_constant.ensures

pub same_term-returns-in-Var : goal.same_term-returns-in-Var
same_term-returns-in-Var t c = rw (c.in-Var.is, expr_of-Var) c.is_variable.ensures

pub same_term-returns-in-Const-other : goal.same_term-returns-in-Const-other
unfolding same_expr
same_term-returns-in-Const-other t c = rw (c.in-App.is, c.in-Const-other.is, expr_of-App, expr_of-Const) refl

pub same_term-returns-in-Var-other : goal.same_term-returns-in-Var-other
unfolding same_expr
same_term-returns-in-Var-other t c = rw (c.in-App.is, c.in-Var-other.is, expr_of-App, expr_of-Var) refl

pub same_term-returns-then-same_operator : goal.same_term-returns-then-same_operator
same_term-returns-then-same_operator t c =
    rw (c.in-App.is, c.in-App-other.is, expr_of-App, expr_of-App)
    (step.same_applied _ _ _ _ _ (sym c.same_operator.ensures ∙ c.if-same_operator.true) (rw (c.as_slice.ensures, c.as_slice-then-same_operator.ensures) at c.same_terms.ensures))

pub same_term-returns-else-same_operator : goal.same_term-returns-else-same_operator
same_term-returns-else-same_operator t c =
    rw (c.in-App.is, c.in-App-other.is, expr_of-App, expr_of-App)
    (c.if-same_operator.false ∙ step.other_applied _ _ _ _ (sym c.same_operator.ensures ∙ c.if-same_operator.false))

pub same_term-returns-in-Call-other : goal.same_term-returns-in-Call-other
unfolding same_expr
same_term-returns-in-Call-other t c = rw (c.in-App.is, c.in-Call-other.is, expr_of-App, expr_of-Call) refl

pub same_term-returns-in-Let-other : goal.same_term-returns-in-Let-other
unfolding same_expr
same_term-returns-in-Let-other t c = rw (c.in-App.is, c.in-Let-other.is, expr_of-App, expr_of-Let) refl

pub same_term-returns-in-Call : goal.same_term-returns-in-Call
unfolding same_expr
same_term-returns-in-Call t c = rw (c.in-Call.is, expr_of-Call) refl

pub same_term-returns-in-Let : goal.same_term-returns-in-Let
unfolding same_expr
same_term-returns-in-Let t c = rw (c.in-Let.is, expr_of-Let) refl

pub same_terms-returns-then-terms-others : goal.same_terms-returns-then-terms-others
same_terms-returns-then-terms-others t c = step.lengths_differ c.args.terms.now c.args.others.now c.if-terms-others.true

pub same_terms-loop-place-init : goal.same_terms-loop-place-init
same_terms-loop-place-init t c = refl

pub same_terms-loop-place-preserved : goal.same_terms-loop-place-preserved
same_terms-loop-place-preserved t c =
    step.next_same c.args.terms.now c.args.others.now c.loop-place.place c.index-terms-place.result c.index-others-place.result _ c.loop-place-test.true c.index-terms-place.is (omega arith) c.index-others-place.is (sym c.same_term.ensures ∙ c.if-not-same_term.false) c.loop-place.invariant

pub same_terms-returns-then-not-same_term : goal.same_terms-returns-then-not-same_term
same_terms-returns-then-not-same_term t c =
    step.here_differs c.args.terms.now c.args.others.now c.loop-place.place c.index-terms-place.result c.index-others-place.result _ c.loop-place-test.true c.index-terms-place.is (omega arith) c.index-others-place.is (sym c.same_term.ensures ∙ c.if-not-same_term.true) c.loop-place.invariant

pub same_terms-returns : goal.same_terms-returns
same_terms-returns t c = step.all_are_same c.args.terms.now c.args.others.now c.loop-place.place _ (omega arith) (omega arith) c.loop-place.invariant
