use Rattle.std.proofs.Common.{refl, sym, ◌∙◌}
use mathlib.Core.Bool.{true≢false}
use Rattle.sy_grammar.proofs.Choices.{choice_other}
use Rattle.sy_grammar_base.specs.Written.{pattern_of-Const, pattern_of-Var, pattern_of-Non, pattern_of-App, pattern_of-Call}
use Rattle.sy_grammar.proofs.choice.chooses.Goals as goal

pub returns-in-Const : goal.returns-in-Const
returns-in-Const g c = rw (c.in-Const.is, pattern_of-Const) refl

pub returns-in-Var : goal.returns-in-Var
returns-in-Var g c = rw (c.in-Var.is, pattern_of-Var) refl

pub returns-in-Non : goal.returns-in-Non
returns-in-Non g c = rw (c.in-Non.is, pattern_of-Non) refl

pub returns-in-Call : goal.returns-in-Call
returns-in-Call g c = rw (c.in-Call.is, pattern_of-Call) refl

pub returns-then-equals : goal.returns-then-equals
returns-then-equals g c = rw (c.in-App.is, pattern_of-App, c.equals.ensures.0 c.if-equals.true) c.are_choices.ensures

pub returns-else-equals : goal.returns-else-equals
returns-else-equals g c = rw (c.in-App.is, pattern_of-App) (c.if-equals.false ∙ sym (choice_other _ _ (λ same. true≢false (sym (c.equals.ensures.1 same) ∙ c.if-equals.false))))
