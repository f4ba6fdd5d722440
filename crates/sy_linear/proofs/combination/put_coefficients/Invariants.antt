use Rattle.std.proofs.Common.{◌≡◌, ◌+◌, length}
use Rattle.sy_linear.specs.Combining.{following, plus_coefficients}
use Rattle.sy_linear.proofs.combination.put_coefficients.Given as goal

abbrev pub invariant-loop-first : goal.invariant-loop-first
invariant-loop-first l = following l.all (plus_coefficients l.factor l.cs l.qs) ≡ plus_coefficients l.factor l.coefficients l.shares

abbrev pub decreases-loop-first : goal.decreases-loop-first
decreases-loop-first l = length l.cs + length l.qs
