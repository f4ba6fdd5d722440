use Rattle.std.proofs.Common.{◌≡◌, ◌++◌, take}
use Rattle.sy_linear_known.proofs.walk.bind.Given as goal

abbrev pub invariant-loop-sight : goal.invariant-loop-sight
invariant-loop-sight l = l.names.items ≡ l.fn.names.items ++ take l.sight-index l.bound
