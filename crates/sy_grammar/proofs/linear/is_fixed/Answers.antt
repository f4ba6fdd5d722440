use Rattle.std.proofs.Common.{refl, sym, ◌∙◌, ap, List, map}
use Rattle.std.specs.List.{list_all}
use Rattle.sy_grammar_base.specs.Formed.{gives_constants}
use Rattle.sy_grammar_base.specs.Grown.{production_of}
use Rattle.sy_grammar_base.specs.declared.grammar.Rule.{Rule}
use Rattle.std.proofs.lemmas.Option.{slice_get_read}
use Rattle.sy_grammar_base.specs.Written.{pattern_of-Const, pattern_of-Var, pattern_of-Non, pattern_of-App, pattern_of-Call}
use Rattle.sy_grammar.proofs.Factors.{signed_other, constants_at, constants_past}
use Rattle.sy_grammar.proofs.linear.is_fixed.Goals as goal

pub returns-in-Some : goal.returns-in-Some
returns-in-Some g c = rw (c.in-Non.is, pattern_of-Non) (c.all_give_constants.ensures ∙ ap (λ (rules : List (Rule _ _)). list_all gives_constants (map (production_of g.T.Theory.denotes) rules)) c.as_slice.ensures ∙ sym (constants_at g.T.Theory.denotes c.args.nons.now c.in-Non.nonterminal c.in-Some.non.now (slice_get_read _ _ _ _ refl c.in-Some.ensures.lookup.3.0 c.in-Some.ensures.lookup.1)))

pub returns-in-None : goal.returns-in-None
returns-in-None g c = rw (c.in-Non.is, pattern_of-Non) (sym (constants_past g.T.Theory.denotes c.args.nons.now c.in-Non.nonterminal c.in-None.ensures.lookup.3))

pub returns-in-Const : goal.returns-in-Const
returns-in-Const g c = rw (c.in-Const.is, pattern_of-Const) refl

pub returns-in-Var : goal.returns-in-Var
returns-in-Var g c = rw (c.in-Var.is, pattern_of-Var) refl

pub returns-then-equals : goal.returns-then-equals
returns-then-equals g c = rw (c.in-App.is, pattern_of-App, c.equals.ensures.0 c.if-equals.true) c.is_one_constant.ensures

pub returns-else-equals : goal.returns-else-equals
returns-else-equals g c = rw (c.in-App.is, pattern_of-App) (c.if-equals.false ∙ sym (signed_other _ _ (λ same. let is = c.equals.ensures.1 same in let not = c.if-equals.false in cc)))

pub returns-in-Call : goal.returns-in-Call
returns-in-Call g c = rw (c.in-Call.is, pattern_of-Call) refl
