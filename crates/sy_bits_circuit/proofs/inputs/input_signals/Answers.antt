use Rattle.std.proofs.lemmas.List.{drop_more}
use Rattle.sy_bits_circuit.proofs.Entering.{width-more, have-rest, sorts-more, inside-more, values-more}
use Rattle.sy_bits_circuit.proofs.inputs.input_signals.Goals as goal

pub loop-sort-preserved : goal.loop-sort-preserved
loop-sort-preserved c =
    let next = drop_more c.args.sorts.now c.loop-sort.sort-index _ c.loop-sort-test.true in
    let width = c.width_of-count.ensures in
    record {
      count = width-more _ _ _ c.loop-sort.count _ _ width next c.loop-sort.invariant.count;
      have = have-rest _ _ _ next c.loop-sort.invariant.have;
      sorts = sorts-more _ _ _ _ _ _ _ c.in_ok-push.ensures.items c.in_ok-signal.ensures.sort next c.loop-sort.invariant.sorts;
      inside = inside-more _ _ _ _ c.loop-sort.count _ c.in_ok-push.ensures.items c.in_ok-signal.ensures.sort width c.in_ok-signal.ensures.inside c.loop-sort.invariant.inside;
      values = λ m. values-more m _ _ _ _ _ _ c.loop-sort.count _ _ c.in_ok-push.ensures.items width (c.in_ok-signal.ensures.value m) next (c.loop-sort.invariant.values m);
    }
