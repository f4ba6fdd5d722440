use Rattle.std.proofs.Common.{◌≡◌, ◌++◌, drop}
use Rattle.sy_linear.specs.Combining.{numerators}
use Rattle.sy_linear.proofs.combination.numerators.Given as goal

abbrev pub invariant-loop-share : goal.invariant-loop-share
invariant-loop-share l = l.all ++ numerators (drop l.share-index l.shares) ≡ numerators l.shares
