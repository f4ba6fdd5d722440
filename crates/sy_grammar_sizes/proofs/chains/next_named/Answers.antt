use Rattle.std.proofs.Common.{◌≡◌, ℕ, refl, ap, ◌∙◌, arith, map, slice_get, Some, false}
use Rattle.std.proofs.lemmas.List.{length-map}
use Rattle.std.proofs.lemmas.Option.{slice_get_read, slice_get_within}
use Rattle.sy_grammar_base.specs.Patterns.{Occurrence}
use Rattle.sy_grammar_base.specs.Trees.{Template}
use Rattle.sy_grammar_base.specs.Grown.{production_of}
use Rattle.sy_grammar_sizes.proofs.Lists.{mapped_at}
use Rattle.sy_grammar_sizes.proofs.Marks.{named_more}
use Rattle.sy_grammar_sizes.proofs.chains.next_named.Goals as goal
use Rattle.sy_grammar_sizes.proofs.chains.next_named.Goals.{in-Some+else-has_mark, in_default}

pub loop-rule-preserved : goal.loop-rule-preserved
loop-rule-preserved g c =
    let number = g.T.Theory.denotes in
    let i = c.loop-rule.rule-index in
    let at = slice_get_read c.args.rules.now _ i c.rule-item.result refl c.loop-rule-test.true c.rule-item.is in
    let none : (to : ℕ) → production_of number c.rule-item.result ≡ Template (Occurrence to) → slice_get c.args.marks.now to ≡ Some false → ⊥ =
    λ to is not. elim c.match-chain_of.branch [
      | in-Some+else-has_mark w ↦
          let named = rw w.in-Some.is at c.chain_of.ensures in
          let same : w.in-Some.to ≡ to = cc in
          let yes = w.has_mark.ensures.1 (ap (slice_get c.args.marks.now) same ∙ not) in
          let no = w.if-has_mark.false in
          cc
      | in_default w ↦ (rw w.in_default.is at c.chain_of.ensures) to is
    ] in
    named_more (map (production_of number) c.args.rules.now) c.args.marks.now i (production_of number c.rule-item.result) c.loop-rule.invariant (mapped_at (production_of number) c.args.rules.now i c.rule-item.result at) none

pub returns : goal.returns
returns g c rule to found not =
    let number = g.T.Theory.denotes in
    let within = slice_get_within (map (production_of number) c.args.rules.now) rule _ found in
    let sized = length-map c.args.rules.now (production_of number) in
    c.loop-rule.invariant rule to (omega (arith, within, sized, c.loop-rule-test.false)) found not

pub returns-then-has_mark : goal.returns-then-has_mark
returns-then-has_mark g c =
    let number = g.T.Theory.denotes in
    let i = c.loop-rule.rule-index in
    let at = slice_get_read c.args.rules.now _ i c.rule-item.result refl c.loop-rule-test.true c.rule-item.is in
    let here = mapped_at (production_of number) c.args.rules.now i c.rule-item.result at in
    let named : production_of number c.rule-item.result ≡ Template (Occurrence c.in-Some.to) = rw c.in-Some.is at c.chain_of.ensures in
    record { rule = i; at = here ∙ ap Some named; unset = c.has_mark.ensures.0 c.if-has_mark.true }
