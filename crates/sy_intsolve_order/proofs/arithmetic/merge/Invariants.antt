use Rattle.std.proofs.Common.{length, ◌+◌, ◌-◌, ◌≤◌}
use Rattle.sy_intsolve_order.proofs.arithmetic.merge.Given as goal

abbrev pub invariant-loop-i : goal.invariant-loop-i
invariant-loop-i l = (l.i ≤ length l.first) × (l.j ≤ length l.second)

abbrev pub decreases-loop-i : goal.decreases-loop-i
decreases-loop-i l = (length l.first - l.i) + (length l.second - l.j)
