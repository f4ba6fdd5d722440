use Rattle.std.proofs.Common.{ap}
use Rattle.sy_terms.specs.Denoted.{expr_of-Const, expr_of-Var, expr_of-App, expr_of-Call, expr_of-Let, exprs_of}
use Rattle.sy_terms.specs.Expr as expr
use Rattle.sy_grammar.proofs.compare.applied.Goals as goal

pub returns-then-equals : goal.returns-then-equals
returns-then-equals g c = rw (c.in-App.is, expr_of-App) (ap (λ o. expr.Apply o (exprs_of g.T.Theory.denotes c.in-App.terms.items.items)) (c.equals.ensures.0 c.if-equals.true))

pub returns-else-equals : goal.returns-else-equals
returns-else-equals g c = rw (c.in-App.is, expr_of-App) (λ terms e. let same = c.equals.ensures.1 (cc) in cc)

pub returns-in-Const : goal.returns-in-Const
returns-in-Const g c = rw (c.in-Const.is, expr_of-Const) (λ terms e. cc)

pub returns-in-Var : goal.returns-in-Var
returns-in-Var g c = rw (c.in-Var.is, expr_of-Var) (λ terms e. cc)

pub returns-in-Call : goal.returns-in-Call
returns-in-Call g c = rw (c.in-Call.is, expr_of-Call) (λ terms e. cc)

pub returns-in-Let : goal.returns-in-Let
returns-in-Let g c = rw (c.in-Let.is, expr_of-Let) (λ terms e. cc)
