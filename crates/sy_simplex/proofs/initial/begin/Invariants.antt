use Rattle.sy_simplex.specs.Beginnings.{IsBegun}
use Rattle.sy_simplex.proofs.initial.begin.Given as goal

abbrev pub invariant-loop-at : goal.invariant-loop-at
invariant-loop-at l = IsBegun l.vars l.forms l.at l.basics.items l.rows.items l.bounds.items
