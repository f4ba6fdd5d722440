use Rattle.std.proofs.Common.{◌≡◌, map, take}
use Rattle.sy_terms.specs.Denoted.{vals_of}
use Rattle.sy_bank_level.specs.Rows.{ArePointsOf}
use Rattle.sy_loop_bodies.proofs.points.points_of.Given as goal

abbrev pub invariant-loop-tuple : goal.invariant-loop-tuple
invariant-loop-tuple g l = ArePointsOf l.sorts (map (vals_of g.T.Theory.denotes) l.points) × (l.points ≡ take l.tuple-index l.tuples)
