use Rattle.std.proofs.Common.{◌≡◌, length}
use Rattle.sy_text_items.specs.Items.{listed}
use Rattle.sy_forms_items.specs.Views.{items_in}
use Rattle.sy_reply_reader.specs.Parts as spec
use Rattle.sy_reply_reader.proofs.part.are_arguments.Given as goal

abbrev pub invariant-loop-item : goal.invariant-loop-item
invariant-loop-item l = spec.are_arguments (items_in l.left) ≡ spec.are_arguments l.items

abbrev pub decreases-loop-item : goal.decreases-loop-item
decreases-loop-item l = length (listed (items_in l.left))
