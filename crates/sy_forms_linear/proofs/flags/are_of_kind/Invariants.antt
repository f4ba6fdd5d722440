use Rattle.std.proofs.Common.{◌≡◌, length}
use Rattle.sy_text_items.specs.Items.{listed}
use Rattle.sy_forms_linear.specs.Flags as spec
use Rattle.sy_forms_items.specs.Seen.{environment_of}
use Rattle.sy_forms_items.specs.Views.{items_in}
use Rattle.sy_forms_linear.proofs.flags.are_of_kind.Given as goal

abbrev pub invariant-loop-item : goal.invariant-loop-item
invariant-loop-item l = spec.are_of_kind l.kind (environment_of l.env) (items_in l.left) ≡ spec.are_of_kind l.kind (environment_of l.env) (items_in l.fn.items)

abbrev pub decreases-loop-item : goal.decreases-loop-item
decreases-loop-item l = length (listed (items_in l.left))
