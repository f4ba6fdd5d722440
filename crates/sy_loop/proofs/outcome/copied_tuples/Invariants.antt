use Rattle.std.proofs.Common.{◌≡◌, take}
use Rattle.sy_loop.proofs.outcome.copied_tuples.Given as goal

abbrev pub invariant-loop-tuple : goal.invariant-loop-tuple
invariant-loop-tuple g l = l.copy ≡ take l.tuple-index l.tuple-items
