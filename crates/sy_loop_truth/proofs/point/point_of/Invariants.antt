use Rattle.std.proofs.Common.{take}
use Rattle.std.specs.List.{Contains}
use Rattle.sy_terms.specs.Denoted.{vals_of}
use Rattle.sy_points.specs.Asked.{tuples_of}
use Rattle.sy_loop_truth.proofs.point.point_of.Given as goal

abbrev pub invariant-loop-point : goal.invariant-loop-point
invariant-loop-point g l = Contains (tuples_of g.T.Theory.denotes (take l.point l.tuples)) (vals_of g.T.Theory.denotes l.tuple) → ⊥
