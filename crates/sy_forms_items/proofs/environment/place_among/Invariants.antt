use Rattle.std.proofs.Common.{◌≡◌, ◌≤◌, length, drop, None}
use Rattle.sy_forms_items.specs.Environments as spec
use Rattle.sy_forms_items.proofs.environment.place_among.Given as goal

abbrev pub invariant-loop-left : goal.invariant-loop-left
invariant-loop-left l = (spec.place_from l.left l.name (drop l.left l.names) ≡ None) × (l.left ≤ length l.names)

abbrev pub decreases-loop-left : goal.decreases-loop-left
decreases-loop-left l = l.left
