use Rattle.std.proofs.Common.{refl, sym, ◌∙◌}
use Rattle.sy_grammar_base.specs.Written.{pattern_of-Const, pattern_of-Var, pattern_of-Non, pattern_of-App, pattern_of-Call}
use Rattle.sy_loop_trees.proofs.Choosing.{first_is, no_first}
use Rattle.sy_loop_trees.proofs.condition.first_place.Goals as goal

pub returns-in-Some : goal.returns-in-Some
returns-in-Some g c = rw (c.in-App.is, pattern_of-App) (c.place.ensures ∙ sym (first_is g.T.Theory.denotes c.in-App.field-0 c.in-App.parts.items.items c.in-Some.first.now c.in-Some.ensures))

pub returns-in-None : goal.returns-in-None
returns-in-None g c = rw (c.in-App.is, pattern_of-App) (sym (no_first g.T.Theory.denotes c.in-App.field-0 c.in-App.parts.items.items c.in-None.ensures))

pub returns-in-Const : goal.returns-in-Const
returns-in-Const g c = rw (c.in-Const.is, pattern_of-Const) refl

pub returns-in-Var : goal.returns-in-Var
returns-in-Var g c = rw (c.in-Var.is, pattern_of-Var) refl

pub returns-in-Non : goal.returns-in-Non
returns-in-Non g c = rw (c.in-Non.is, pattern_of-Non) refl

pub returns-in-Call : goal.returns-in-Call
returns-in-Call g c = rw (c.in-Call.is, pattern_of-Call) refl
