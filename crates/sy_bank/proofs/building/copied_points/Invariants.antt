use Rattle.std.proofs.Common.{◌≡◌, take}
use Rattle.sy_bank.proofs.building.copied_points.Given as goal

abbrev pub invariant-loop-point : goal.invariant-loop-point
invariant-loop-point g l = l.copy ≡ take l.point-index l.points
