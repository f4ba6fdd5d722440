use Rattle.std.proofs.Common.{◌≡◌, ◌++◌, take}
use Rattle.sy_linear.proofs.combination.push_all.Given as goal

abbrev pub invariant-loop-share : goal.invariant-loop-share
invariant-loop-share l = l.list ≡ l.fn.list ++ take l.share-index l.shares
