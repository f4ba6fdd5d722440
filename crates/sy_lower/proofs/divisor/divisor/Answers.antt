use Rattle.std.proofs.Common.{refl, sym, ◌∙◌}
use Rattle.sy_terms.specs.Denoted.{expr_of-Const, expr_of-Var, expr_of-App, expr_of-Call, expr_of-Let}
use Rattle.sy_lower_laws.specs.Lowering.{divisor}
use Rattle.sy_lower.proofs.Divided as step
use Rattle.sy_lower.proofs.divisor.divisor.Goals as goal

pub returns-in-Const : goal.returns-in-Const
returns-in-Const c = rw (c.in-Const.is, expr_of-Const) (c.nonzero_value.ensures ∙ step.of_value _)

pub returns-in-Var : goal.returns-in-Var
unfolding divisor
returns-in-Var c = rw (c.in-Var.is, expr_of-Var) refl

pub returns-then-is_negation : goal.returns-then-is_negation
returns-then-is_negation c =
    rw (c.in-App.is, expr_of-App) (c.negated_divisor.ensures ∙ step.of_negation c.in-App.operator _ _ c.as_slice.ensures (sym c.is_negation.ensures ∙ c.if-is_negation.true))

pub returns-else-is_negation : goal.returns-else-is_negation
returns-else-is_negation c = rw (c.in-App.is, expr_of-App) (step.of_other c.in-App.operator _ (sym c.is_negation.ensures ∙ c.if-is_negation.false))

pub returns-in-Call : goal.returns-in-Call
unfolding divisor
returns-in-Call c = rw (c.in-Call.is, expr_of-Call) refl

pub returns-in-Let : goal.returns-in-Let
unfolding divisor
returns-in-Let c = rw (c.in-Let.is, expr_of-Let) refl
