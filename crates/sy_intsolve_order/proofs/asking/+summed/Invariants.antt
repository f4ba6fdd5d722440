use Rattle.std.specs.Prelude.{length}
use Rattle.sy_intsolve_order.proofs.asking.+summed.Given as goal

abbrev pub decreases-summed : goal.decreases-summed
decreases-summed l = length l.sights.now
