use Rattle.std.proofs.Common.{◌≡◌, length}
use Rattle.sy_linear_known.specs.Paths.{given}
use Rattle.sy_linear_known.proofs.path.given.Given as goal

abbrev pub invariant-loop-first : goal.invariant-loop-first
invariant-loop-first l = given l.variable l.left ≡ given l.variable l.facts

abbrev pub decreases-loop-first : goal.decreases-loop-first
decreases-loop-first l = length l.left
