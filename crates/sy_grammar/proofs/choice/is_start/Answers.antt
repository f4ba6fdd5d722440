use Rattle.std.proofs.Common.{refl}
use Rattle.sy_grammar_base.specs.Written.{pattern_of-Const, pattern_of-Var, pattern_of-Non, pattern_of-App, pattern_of-Call}
use Rattle.sy_grammar.proofs.choice.is_start.Goals as goal

pub returns-in-Const : goal.returns-in-Const
returns-in-Const g c = rw (c.in-Const.is, pattern_of-Const) refl

pub returns-in-Var : goal.returns-in-Var
returns-in-Var g c = rw (c.in-Var.is, pattern_of-Var) refl

pub returns-in-Non : goal.returns-in-Non
returns-in-Non g c = rw (c.in-Non.is, pattern_of-Non) refl

pub returns-in-App : goal.returns-in-App
returns-in-App g c = rw (c.in-App.is, pattern_of-App) refl

pub returns-in-Call : goal.returns-in-Call
returns-in-Call g c = rw (c.in-Call.is, pattern_of-Call) refl
