use Rattle.std.proofs.Common.{◌-◌, ◌<◌, ◌^◌}
use Rattle.sy_cdcl.proofs.order.Order.sink.Given as goal

abbrev pub invariant-loop-place : goal.invariant-loop-place
invariant-loop-place l = l.half < 2 ^ 63

abbrev pub decreases-loop-place : goal.decreases-loop-place
decreases-loop-place l = l.half - l.place
