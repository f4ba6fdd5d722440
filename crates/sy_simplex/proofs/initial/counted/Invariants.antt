use Rattle.sy_simplex.specs.Beginnings.{AreCounted}
use Rattle.sy_simplex.proofs.initial.counted.Given as goal

abbrev pub invariant-loop-number : goal.invariant-loop-number
invariant-loop-number l = AreCounted l.number l.all.items
