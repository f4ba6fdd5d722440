use Rattle.std.proofs.Common.{◌∷◌, [], map}
use Rattle.sy_terms.specs.Denoted.{vals_of}
use Rattle.sy_bank.specs.Rows.{ArePointsOf}
use Rattle.sy_loop_tests.proofs.points.points.Given as goal

abbrev pub invariant-loop-word : goal.invariant-loop-word
invariant-loop-word g l = ArePointsOf (l.sort ∷ []) (map (vals_of g.T.Theory.denotes) l.points)
