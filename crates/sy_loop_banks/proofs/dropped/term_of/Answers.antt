use Rattle.sy_loop_banks.proofs.Losing.{dropped_by, placed_within}
use Rattle.sy_loop_banks.proofs.dropped.term_of.Goals as goal

pub bounds-points-place : goal.bounds-points-place
bounds-points-place g c = placed_within g.T.Theory.denotes c.args.bank.now c.points-points.result.now c.in-Some.dropped.now c.requires c.in-Some.ensures c.points-points.ensures

pub returns : goal.returns
returns g c =
    dropped_by g.T.Theory.denotes c.args.function c.args.bank.now c.points-points.result.now c.in-Some.dropped.now c.index-points-place.result c.in_ok-tuple.tuple c.in_ok-term.term c.points-points.ensures c.in-Some.ensures
    (placed_within g.T.Theory.denotes c.args.bank.now c.points-points.result.now c.in-Some.dropped.now c.requires c.in-Some.ensures c.points-points.ensures) c.index-points-place.is (rw c.as_slice.ensures at c.in_ok-tuple.ensures) c.in_ok-term.ensures
