use Rattle.sy_intsolve_cuts.specs.Cuts.{AllFound}
use Rattle.sy_intsolve_cuts.proofs.choosing.best.Given as goal

abbrev pub invariant-loop-row : goal.invariant-loop-row
invariant-loop-row l = AllFound l.vars l.facts l.point l.least
