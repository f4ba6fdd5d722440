use Rattle.std.proofs.Common.{refl}
use Rattle.sy_terms.specs.Denoted.{expr_of-Const, expr_of-Var, expr_of-App, expr_of-Call, expr_of-Let}
use Rattle.sy_grammar.proofs.compare.called.Goals as goal

pub returns-then-other-definition : goal.returns-then-other-definition
returns-then-other-definition g c = rw (c.in-Call.is, expr_of-Call, c.in-Defined.is, c.if-other-definition.true) refl

pub returns-else-other-definition : goal.returns-else-other-definition
returns-else-other-definition g c = rw (c.in-Call.is, expr_of-Call, c.in-Defined.is) (λ terms e. c.if-other-definition.false (cc))

pub returns-in-Wanted : goal.returns-in-Wanted
returns-in-Wanted g c = rw (c.in-Call.is, expr_of-Call, c.in-Wanted.is) (λ terms e. cc)

pub returns-in-Const : goal.returns-in-Const
returns-in-Const g c = rw (c.in-Const.is, expr_of-Const) (λ terms e. cc)

pub returns-in-Var : goal.returns-in-Var
returns-in-Var g c = rw (c.in-Var.is, expr_of-Var) (λ terms e. cc)

pub returns-in-App : goal.returns-in-App
returns-in-App g c = rw (c.in-App.is, expr_of-App) (λ terms e. cc)

pub returns-in-Let : goal.returns-in-Let
returns-in-Let g c = rw (c.in-Let.is, expr_of-Let) (λ terms e. cc)
