use Rattle.std.proofs.Common.{◌+◌, ◌∙◌, sym, ap, map, arith}
use Rattle.sy_grammar_base.specs.Grown.{nonterminal_of}
use Rattle.sy_grammar.proofs.Factors.{varying_fixed, varying_free}
use Rattle.sy_grammar.proofs.linear.varying.Goals as goal
use Rattle.sy_grammar.proofs.linear.varying.Goals.{then-not-is_fixed, else-not-is_fixed}

pub loop-part-preserved : goal.loop-part-preserved
loop-part-preserved g c =
    let number = g.T.Theory.denotes in
    elim c.if-not-is_fixed.branch [
      | then-not-is_fixed w ↦ (w.count-is ∙ ap (λ n. n + 1) c.loop-part.invariant.0 ∙ sym (varying_free number (map (nonterminal_of number) c.args.nons.now) c.args.parts.now c.loop-part.part-index c.part-item.result c.loop-part-test.true c.part-item.is (sym c.is_fixed.ensures ∙ w.if-not-is_fixed.true)), omega (arith, w.count-is, c.loop-part.invariant.1))
      | else-not-is_fixed w ↦ (w.count-is ∙ c.loop-part.invariant.0 ∙ sym (varying_fixed number (map (nonterminal_of number) c.args.nons.now) c.args.parts.now c.loop-part.part-index c.part-item.result c.loop-part-test.true c.part-item.is (sym c.is_fixed.ensures ∙ w.if-not-is_fixed.false)), omega (arith, w.count-is, c.loop-part.invariant.1))
    ]
