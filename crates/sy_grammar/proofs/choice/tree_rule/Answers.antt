use Rattle.std.proofs.Common.{◌≡◌, ◌∙◌, ap, sym, subst, arith, false, map, length, List, Some, slice_get}
use Rattle.std.specs.Prelude.{All, MatchOption}
use Rattle.sy_grammar_base.specs.Trees.{Production, IsFirst, is_choice}
use Rattle.sy_grammar_base.specs.Grown.{production_of}
use Rattle.sy_grammar_base.specs.declared.grammar.Non.{Non}
use Rattle.sy_grammar_base.specs.declared.grammar.Rule.{Rule}
use Rattle.sy_grammar.proofs.Choices.{start_is, no_start, start_few}
use Rattle.sy_grammar.proofs.choice.tree_rule.Goals as goal

pub returns-in-Some : goal.returns-in-Some
returns-in-Some g c =
    let number = g.T.Theory.denotes in
    let at : slice_get c.args.g.now.nons 0 ≡ Some c.in-Some.start.now = sym (ap (λ (ns : List (Non _ _)). slice_get ns 0) c.nons.ensures) ∙ c.in-Some.ensures in
    let same = ap (λ (rs : List (Rule _ _)). map (production_of number) rs) c.as_slice.ensures ∙ start_is number c.args.g.now.args c.args.g.now.nons c.in-Some.start.now at in
    subst (λ (items : List Production). MatchOption c.first_choice.result (All (λ rule. is_choice rule ≡ false) items) (λ place. IsFirst is_choice items place)) same c.first_choice.ensures

pub returns-in-None : goal.returns-in-None
returns-in-None g c = no_start g.T.Theory.denotes c.args.g.now.args c.args.g.now.nons (omega (arith, ap length c.nons.ensures, c.in-None.ensures))

pub first_choice-requires : goal.first_choice-requires
first_choice-requires g c =
    let at : slice_get c.args.g.now.nons 0 ≡ Some c.in-Some.start.now = sym (ap (λ (ns : List (Non _ _)). slice_get ns 0) c.nons.ensures) ∙ c.in-Some.ensures in
    let few = start_few g.T.Theory.denotes c.args.g.now.args c.args.g.now.nons c.in-Some.start.now c.requires.numbered at in
    omega (arith, few, ap length c.as_slice.ensures)
