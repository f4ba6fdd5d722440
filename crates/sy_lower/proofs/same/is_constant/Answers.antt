use Rattle.std.proofs.Common.{refl}
use Rattle.sy_terms.specs.Denoted.{expr_of-Const, expr_of-Var, expr_of-App, expr_of-Call, expr_of-Let}
use Rattle.sy_lower_laws.specs.Lowering.{same_expr}
use Rattle.sy_lower.proofs.same.is_constant.Goals as goal

pub returns-in-Const : goal.returns-in-Const
unfolding same_expr
returns-in-Const c = rw (c.in-Const.is, expr_of-Const) c.same_value.ensures

pub returns-in-Var : goal.returns-in-Var
unfolding same_expr
returns-in-Var c = rw (c.in-Var.is, expr_of-Var) refl

pub returns-in-App : goal.returns-in-App
unfolding same_expr
returns-in-App c = rw (c.in-App.is, expr_of-App) refl

pub returns-in-Call : goal.returns-in-Call
unfolding same_expr
returns-in-Call c = rw (c.in-Call.is, expr_of-Call) refl

pub returns-in-Let : goal.returns-in-Let
unfolding same_expr
returns-in-Let c = rw (c.in-Let.is, expr_of-Let) refl
