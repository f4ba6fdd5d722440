use Rattle.std.proofs.Common.{ap}
use Rattle.std.proofs.lemmas.Bool.Decides.{nat_tests}
use Rattle.std.proofs.Common.{arith}
use Rattle.sy_terms.specs.Denoted.{expr_of-Const, expr_of-Var, expr_of-App, expr_of-Call, expr_of-Let}
use Rattle.sy_terms.specs.Expr as expr
use Rattle.sy_grammar.proofs.compare.is_variable.Goals as goal

pub returns-in-Var : goal.returns-in-Var
returns-in-Var g c = rw (c.in-Var.is, expr_of-Var) (λ same. ap expr.Variable (grind (arith, nat_tests)), λ e. grind (arith, nat_tests))

pub returns-in-Const : goal.returns-in-Const
returns-in-Const g c = rw (c.in-Const.is, expr_of-Const) (λ same. absurd cc, λ e. absurd cc)

pub returns-in-App : goal.returns-in-App
returns-in-App g c = rw (c.in-App.is, expr_of-App) (λ same. absurd cc, λ e. absurd cc)

pub returns-in-Call : goal.returns-in-Call
returns-in-Call g c = rw (c.in-Call.is, expr_of-Call) (λ same. absurd cc, λ e. absurd cc)

pub returns-in-Let : goal.returns-in-Let
returns-in-Let g c = rw (c.in-Let.is, expr_of-Let) (λ same. absurd cc, λ e. absurd cc)
