use Rattle.std.proofs.Common.{sym, ap, ◌∙◌, subst}
use Rattle.sy_terms.specs.Denoted.{expr_of}
use Rattle.sy_grammar_base.specs.Trees.{Derives}
use Rattle.sy_grammar_base.specs.Grown.{syntax_from}
use Rattle.sy_grammar.specs.Steps.{tree_at, step_trees}
use Rattle.sy_grammar.proofs.Closing.{noted_derives, noted_whole}
use Rattle.sy_grammar.proofs.derivations.derive.Goals as goal

pub build-requires-clause-within : goal.build-requires-clause-within
build-requires-clause-within g c =
    let found = noted_derives g.T.Theory.denotes _ _ _ _ c.note.new.steps.items _ c.args.non c.in-Some.step c.in_ok-whole.ensures c.row.ensures c.in-Some.ensures in
    rw (c.as_slice.ensures.value) found.0

pub returns-in-Some : goal.returns-in-Some
returns-in-Some g c =
    let number = g.T.Theory.denotes in
    let found = noted_derives number _ _ _ _ c.note.new.steps.items _ c.args.non c.in-Some.step c.in_ok-whole.ensures c.row.ensures c.in-Some.ensures in
    let tree = c.in_ok-derivation-in-Some.ensures ∙ ap (λ steps. tree_at (step_trees number steps) c.in-Some.step) c.as_slice.ensures.value in
    subst (λ t. Derives (syntax_from number c.args.g.now) c.args.non t (expr_of number c.args.t.now)) (sym tree) found.1

pub returns : goal.returns
returns g c = noted_whole g.T.Theory.denotes _ _ _ _ c.note.new.steps.items _ c.args.non c.in_ok-whole.ensures c.row.ensures c.in-None.ensures
