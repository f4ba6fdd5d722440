use Rattle.sy_loop_tests.proofs.Cases.{three-rows}
use Rattle.sy_loop_tests.proofs.part_rows.assert_rows.Goals as goal

pub kept-argument-requires-clause-points : goal.kept-argument-requires-clause-points
kept-argument-requires-clause-points g c = rw c.as_slice-points.ensures c.points-points.ensures

pub kept-one-requires-clause-points : goal.kept-one-requires-clause-points
kept-one-requires-clause-points g c = rw c.as_slice-points.ensures c.points-points.ensures

pub kept-five-requires-clause-points : goal.kept-five-requires-clause-points
kept-five-requires-clause-points g c = rw c.as_slice-points.ensures c.points-points.ensures

pub is_right-requires-clause-points : goal.is_right-requires-clause-points
is_right-requires-clause-points g c = rw c.as_slice-points.ensures c.points-points.ensures

pub is_right-requires-clause-rows : goal.is_right-requires-clause-rows
is_right-requires-clause-rows g c = three-rows _ _ _ _ _ _ c.kept-argument.ensures c.kept-one.ensures c.kept-five.ensures
