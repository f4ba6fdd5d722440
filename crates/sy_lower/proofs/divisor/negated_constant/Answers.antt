use Rattle.std.proofs.Common.{refl, ◌∙◌}
use Rattle.sy_terms.specs.Values.{Whole}
use Rattle.sy_terms.specs.Denoted.{val_of, expr_of-Const, expr_of-Var, expr_of-App, expr_of-Call, expr_of-Let}
use Rattle.sy_lower.proofs.Divided.{of_negated}
use Rattle.sy_lower.proofs.divisor.negated_constant.Goals as goal

pub returns-in-Const : goal.returns-in-Const
returns-in-Const c = rw (c.in-Const.is, expr_of-Const) (c.negated_value.ensures ∙ of_negated (val_of Whole c.in-Const.value))

pub returns-in-Var : goal.returns-in-Var
returns-in-Var c = rw (c.in-Var.is, expr_of-Var) refl

pub returns-in-App : goal.returns-in-App
returns-in-App c = rw (c.in-App.is, expr_of-App) refl

pub returns-in-Call : goal.returns-in-Call
returns-in-Call c = rw (c.in-Call.is, expr_of-Call) refl

pub returns-in-Let : goal.returns-in-Let
returns-in-Let c = rw (c.in-Let.is, expr_of-Let) refl
