use Rattle.std.proofs.Common.{◌∙◌, sym}
use Rattle.sy_loop_bodies.proofs.Copied.{copied_point}
use Rattle.sy_loop_bodies.proofs.points.points_of.Goals as goal

pub loop-tuple-preserved : goal.loop-tuple-preserved
loop-tuple-preserved g c =
    let found = rw c.in-Some.is at c.in_ok-found.ensures in
    let sorts = sym c.as_slice-in-loop-tuple.ensures.value ∙ c.are_same.ensures c.if-not-are_same.false in
    rw c.in_ok-push.ensures.ok
    (copied_point g.T.Theory.denotes c.args.sorts.now c.in-Some.found.items c.loop-tuple.points c.args.tuples.now c.loop-tuple.tuple-index c.tuple-item.result c.in_ok-copy.copy
    (c.in_ok-copy.ensures ∙ c.as_slice-in-loop-tuple-2.ensures) c.loop-tuple-test.true c.tuple-item.is (rw c.as_slice.ensures at found.0) (rw c.as_slice.ensures at found.1) sorts c.loop-tuple.invariant.0 c.loop-tuple.invariant.1)
