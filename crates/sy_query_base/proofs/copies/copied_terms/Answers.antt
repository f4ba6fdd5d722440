use Rattle.std.proofs.Common.{arith, take}
use Rattle.std.proofs.lemmas.List.{take_more}
use Rattle.sy_query_base.proofs.Lists.{one_more}
use Rattle.sy_query_base.proofs.copies.copied_terms.Goals as goal

pub loop-term-preserved : goal.loop-term-preserved
loop-term-preserved g c =
    let more = take_more c.args.terms.now c.loop-term.term-index c.term-item.result (grind arith) in
    rw (more, ← c.term-item.is, c.in_ok-push.ensures.items)
    (one_more g.T.Theory.denotes c.loop-term.copies.items (take c.loop-term.term-index c.args.terms.now) c.in_ok-copy.copy c.term-item.result c.loop-term.invariant c.in_ok-copy.ensures)
