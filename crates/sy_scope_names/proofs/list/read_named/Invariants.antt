use Rattle.std.proofs.Common.{◌≡◌, [], length}
use Rattle.sy_text_items.specs.Items.{listed}
use Rattle.sy_forms_items.specs.Views.{items_in}
use Rattle.sy_scope_names.specs.Lists as spec
use Rattle.sy_scope_names.proofs.list.read_named.Given as goal

abbrev pub invariant-loop-item : goal.invariant-loop-item
invariant-loop-item l =
    spec.read_named l.naming.names.now.sorts l.naming.logic l.naming.taken.now l.done (items_in l.left)
    ≡ spec.read_named l.naming.names.now.sorts l.naming.logic l.naming.taken.now [] l.items

abbrev pub decreases-loop-item : goal.decreases-loop-item
decreases-loop-item l = length (listed (items_in l.left))
