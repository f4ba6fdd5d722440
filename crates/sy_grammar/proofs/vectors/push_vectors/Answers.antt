use Rattle.std.proofs.Common.{arith, refl, get_or}
use Rattle.sy_grammar.proofs.Growing.{numbered}
use Rattle.sy_grammar.proofs.vectors.push_vectors.Goals as goal

pub loop-width-preserved : goal.loop-width-preserved
loop-width-preserved g c = (
  numbered g.T.Theory.denotes c.loop-width.nons c.push.new.self c.in_ok-vectors.field-0 _ c.args.widths.now c.loop-width.width-index (get_or c.args.widths.now c.loop-width.width-index 0) c.loop-width.v c.args.b c.loop-width-test.true refl c.in_ok-push.ensures.ok c.in_ok-vectors.ensures c.loop-width.invariant.0,
  omega (arith, c.loop-width.invariant.1),
)
