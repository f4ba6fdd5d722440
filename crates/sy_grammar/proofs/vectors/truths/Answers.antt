use Rattle.std.proofs.Common.{map}
use Rattle.sy_grammar_base.specs.Grown.{production_of}
use Rattle.sy_grammar.proofs.Growing.{compared}
use Rattle.sy_grammar.proofs.vectors.truths.Goals as goal

pub loop-v-preserved : goal.loop-v-preserved
loop-v-preserved g c =
    let number = g.T.Theory.denotes in
    compared c.args.first c.args.count c.loop-v.v (map (production_of number) c.loop-v.rules) (map (production_of number) c.push_comparisons.new.rules) _ c.loop-v.auto.v c.loop-v-test.true c.in_ok-push_comparisons.ensures c.loop-v.invariant
