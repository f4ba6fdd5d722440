use Rattle.std.proofs.Common.{◌≡◌, ◌∙◌, ap, List, []}
use Rattle.sy_terms.specs.Definitions.{scope_of}
use Rattle.sy_terms.specs.declared.sort.Sort.{Sort}
use Rattle.sy_terms.specs.declared.term.Def.{Def}
use Rattle.sy_grammar_base.specs.Trees.{Nonterminal, Syntax}
use Rattle.sy_grammar_base.specs.Formed.{is_formed, syntax_with}
use Rattle.sy_grammar_base.specs.Grown.{syntax_from}
use Rattle.sy_grammar_base.specs.declared.grammar.Non.{Non}
use Rattle.sy_grammar.specs.Defaults.{default_syntax}
use Rattle.sy_grammar.proofs.FittingLaws.{default_formed}
use Rattle.sy_grammar_base.proofs.Numbering.{numbered}
use Rattle.sy_grammar.proofs.grammar.default_grammar.Goals as goal

pub new-requires-2 : goal.new-requires-2
new-requires-2 g c =
    let number = g.T.Theory.denotes in
    let owned = g.T.Theory.owned in
    let numeric = g.T.Theory.numeric in
    let nons = c.in_ok-nons.nons in
    record {
      formed =
          ap (λ (defs : List (Def _ _)). is_formed numeric (scope_of owned defs) (syntax_with number c.in_ok-args.args nons)) c.new.ensures
          ∙ ap (λ (args : List Sort). is_formed numeric (record { owned = owned; defined = []; wanted = [] }) (syntax_with number args nons)) c.in_ok-args.ensures
          ∙ ap (λ (all : List Nonterminal). is_formed numeric (record { owned = owned; defined = []; wanted = [] }) (record { arguments = c.args.args.now; nonterminals = all })) c.in_ok-nons.ensures
          ∙ default_formed [] c.args.logic owned numeric c.requires.theory c.args.args.now c.args.sort c.requires.arguments c.requires.value;
    }

pub returns-clause-formed : goal.returns-clause-formed
returns-clause-formed g c =
    let number = g.T.Theory.denotes in
    let result = c.new-3.result in
    let same : syntax_from number result ≡ default_syntax c.args.logic c.args.args.now c.args.sort =
    ap (λ (args : List Sort). syntax_with number args result.nons) (c.new-3.ensures.args ∙ c.in_ok-args.ensures)
    ∙ ap (λ (nons : List (Non _ _)). syntax_with number c.args.args.now nons) c.new-3.ensures.nons
    ∙ ap (λ (all : List Nonterminal). let made : Syntax = record { arguments = c.args.args.now; nonterminals = all } in made) c.in_ok-nons.ensures in
    λ defined.
    ap (is_formed g.T.Theory.numeric (record { owned = g.T.Theory.owned; defined = defined; wanted = [] })) same
    ∙ default_formed defined c.args.logic g.T.Theory.owned g.T.Theory.numeric c.requires.theory c.args.args.now c.args.sort c.requires.arguments c.requires.value

pub returns-clause-numbered : goal.returns-clause-numbered
returns-clause-numbered g c =
    numbered g.T.Theory.numeric (record { owned = g.T.Theory.owned; defined = []; wanted = [] }) (syntax_from g.T.Theory.denotes c.new-3.result) (returns-clause-formed g c [])
