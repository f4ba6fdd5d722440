use Rattle.std.proofs.Common.{◌≡◌, length}
use Rattle.sy_linear.specs.Combining.{following, divided_shares}
use Rattle.sy_linear.proofs.combination.divided_shares.Given as goal

abbrev pub invariant-loop-share : goal.invariant-loop-share
invariant-loop-share l = following l.all (divided_shares l.divisor l.left) ≡ divided_shares l.divisor l.shares

abbrev pub decreases-loop-share : goal.decreases-loop-share
decreases-loop-share l = length l.left
