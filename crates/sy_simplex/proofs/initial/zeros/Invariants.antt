use Rattle.sy_simplex.specs.Beginnings.{AreZeros}
use Rattle.sy_simplex.proofs.initial.zeros.Given as goal

abbrev pub invariant-loop-place : goal.invariant-loop-place
invariant-loop-place l = AreZeros l._place l.all.items
