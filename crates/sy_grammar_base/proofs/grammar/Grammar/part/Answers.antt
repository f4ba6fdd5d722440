use Rattle.std.proofs.Common.{◌∙◌, ap, sym, Some}
use Rattle.sy_grammar_base.specs.Trees.{template}
use Rattle.sy_grammar_base.specs.Grown.{production_of}
use Rattle.sy_grammar_base.specs.declared.grammar.Rule.{Rule}
use Rattle.sy_grammar_base.proofs.Parted.{rule_read, rule_past, nonterminal_past}
use Rattle.sy_grammar_base.proofs.grammar.Grammar.part.Goals as goal

pub returns-in-Term : goal.returns-in-Term
returns-in-Term g c =
    let number = g.T.Theory.denotes in
    sym (rule_read number c.args.self.now c.args.non c.args.rule c.in_ok-found.found.now c.in_ok-part.field-0.now c.in_ok-found.ensures c.in_ok-part.ensures ∙ ap (λ (r : Rule _ _). template (Some (production_of number r))) c.in-Term.is)

pub returns-in-AnyConstant : goal.returns-in-AnyConstant
returns-in-AnyConstant g c =
    let number = g.T.Theory.denotes in
    sym (rule_read number c.args.self.now c.args.non c.args.rule c.in_ok-found.found.now c.in_ok-part.field-0.now c.in_ok-found.ensures c.in_ok-part.ensures ∙ ap (λ (r : Rule _ _). template (Some (production_of number r))) c.in-AnyConstant.is)

pub returns-in-AnyVariable : goal.returns-in-AnyVariable
returns-in-AnyVariable g c =
    let number = g.T.Theory.denotes in
    sym (rule_read number c.args.self.now c.args.non c.args.rule c.in_ok-found.found.now c.in_ok-part.field-0.now c.in_ok-found.ensures c.in_ok-part.ensures ∙ ap (λ (r : Rule _ _). template (Some (production_of number r))) c.in-AnyVariable.is)

pub returns-in_err-found : goal.returns-in_err-found
returns-in_err-found g c = rw c.from_residual.ensures (sym (nonterminal_past g.T.Theory.denotes c.args.self.now c.args.non c.args.rule c.in_err-found.ensures))

pub returns-in_err-part : goal.returns-in_err-part
returns-in_err-part g c =
    rw c.from_residual-in_err-part.ensures (sym (rule_past g.T.Theory.denotes c.args.self.now c.args.non c.args.rule c.in_ok-found.found.now c.in_ok-found.ensures c.in_err-part.ensures))
