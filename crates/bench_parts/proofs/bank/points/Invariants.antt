use Rattle.std.proofs.Common.{◌∷◌, [], map}
use Rattle.sy_terms.specs.Denoted.{vals_of}
use Rattle.sy_bank.specs.Rows.{ArePointsOf}
use Rattle.bench_parts.proofs.bank.points.Given as goal

abbrev pub invariant-loop : goal.invariant-loop
invariant-loop g l = ArePointsOf (l.sort ∷ l.sort ∷ l.sort ∷ l.sort ∷ []) (map (vals_of g.T.Theory.denotes) l.points)
