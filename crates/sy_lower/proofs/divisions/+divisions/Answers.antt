use Rattle.std.proofs.Common.{refl, sym, ◌∙◌}
use Rattle.sy_terms.specs.Denoted.{expr_of-Const, expr_of-Var, expr_of-App, expr_of-Call, expr_of-Let}
use Rattle.sy_lower_laws.specs.Lowering.{has_divisions}
use Rattle.sy_lower.proofs.Dividing as step
use Rattle.sy_lower.proofs.divisions.+divisions.Goals as goal

pub has_division-returns-in-Const : goal.has_division-returns-in-Const
unfolding has_divisions
has_division-returns-in-Const t c = rw (c.in-Const.is, expr_of-Const) refl

pub has_division-returns-in-Var : goal.has_division-returns-in-Var
unfolding has_divisions
has_division-returns-in-Var t c = rw (c.in-Var.is, expr_of-Var) refl

pub has_division-returns-then-is_division : goal.has_division-returns-then-is_division
has_division-returns-then-is_division t c = rw (c.in-App.is, expr_of-App) (c.if-is_division.true ∙ step.operator_has _ _ (sym c.is_division.ensures ∙ c.if-is_division.true))

pub has_division-returns-else-is_division : goal.has_division-returns-else-is_division
has_division-returns-else-is_division t c =
    rw (c.in-App.is, expr_of-App)
    (step.arguments_have _ _ _ (sym c.is_division.ensures ∙ c.if-is_division.false) (rw c.as_slice.ensures at c.have_division.ensures))

pub has_division-returns-in-Call : goal.has_division-returns-in-Call
unfolding has_divisions
has_division-returns-in-Call t c = rw (c.in-Call.is, expr_of-Call) (rw c.as_slice-in-Call.ensures at c.have_division-in-Call.ensures)

pub has_division-returns-then-have_division : goal.has_division-returns-then-have_division
has_division-returns-then-have_division t c =
    rw (c.in-Let.is, expr_of-Let) (c.if-have_division.true ∙ step.bound_have _ _ (sym (rw c.as_slice-in-Let.ensures at c.have_division-in-Let.ensures) ∙ c.if-have_division.true))

pub has_division-returns-else-have_division : goal.has_division-returns-else-have_division
has_division-returns-else-have_division t c =
    rw (c.in-Let.is, expr_of-Let)
    (step.inner_has _ _ _ (sym (rw c.as_slice-in-Let.ensures at c.have_division-in-Let.ensures) ∙ c.if-have_division.false) (rw c.deref.ensures at c.has_division.ensures))

pub have_division-loop-term-init : goal.have_division-loop-term-init
have_division-loop-term-init t c = refl

pub have_division-returns-then-has_division : goal.have_division-returns-then-has_division
have_division-returns-then-has_division t c =
    step.here c.args.terms.now c.loop-term.term-index c.term-item.result _ c.loop-term-test.true c.term-item.is (sym c.has_division.ensures ∙ c.if-has_division.true) c.loop-term.invariant

pub have_division-loop-term-preserved : goal.have_division-loop-term-preserved
have_division-loop-term-preserved t c =
    step.later c.args.terms.now c.loop-term.term-index c.term-item.result _ c.loop-term-test.true c.term-item.is (sym c.has_division.ensures ∙ c.if-has_division.false) c.loop-term.invariant

pub have_division-returns : goal.have_division-returns
have_division-returns t c = step.none_left c.args.terms.now c.loop-term.term-index _ c.loop-term-test.false c.loop-term.invariant
