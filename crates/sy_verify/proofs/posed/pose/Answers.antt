use Rattle.std.proofs.Common.{◌∙◌, length, ap, sym, subst}
use Rattle.std.specs.Prelude.{All}
use Rattle.sy_grammar_base.specs.Grown.{syntax_from}
use Rattle.sy_grammar_base.specs.Trees.{IsNumbered}
use Rattle.sy_verify.proofs.Outside.{as_many, grammars_numbered}
use Rattle.sy_verify.proofs.posed.pose.Goals as goal

pub first_outside-requires-clause-numbered : goal.first_outside-requires-clause-numbered
first_outside-requires-clause-numbered g c =
    subst (All (λ w. IsNumbered (syntax_from g.T.Theory.denotes w.grammar))) (sym c.as_slice.ensures)
    (grammars_numbered g.T.Theory.denotes g.T.Theory.owned g.T.Theory.numeric c.args.problem.now c.requires.problem)

pub first_outside-requires-clause-as_many : goal.first_outside-requires-clause-as_many
first_outside-requires-clause-as_many g c =
    ap length c.as_slice-2.ensures ∙ as_many g.T.Theory.denotes g.T.Theory.owned c.args.problem.now.defs c.args.bodies.now c.args.problem.now.wanted c.requires.bodies ∙ ap length (sym c.as_slice.ensures)
