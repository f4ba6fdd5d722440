use Rattle.std.proofs.Common.{List, [], take}
use Rattle.sy_terms.specs.declared.sort.Sort.{Sort}
use Rattle.sy_intsolve_cuts.specs.Points.{IsPointOf}
use Rattle.sy_intsolve.proofs.subset.are_met.Given as goal

abbrev pub invariant-loop-fact : goal.invariant-loop-fact
invariant-loop-fact l = (vars : List Sort) → IsPointOf vars [] l.point → IsPointOf vars (take l.fact-index l.facts) l.point
