use Rattle.std.proofs.Common.{◌≡◌, length}
use Rattle.sy_forms_items.specs.Seen.{environment_of}
use Rattle.sy_text_items.specs.Items.{listed}
use Rattle.sy_forms_items.specs.Views.{items_in}
use Rattle.sy_scope_steps.specs.Grammars as spec
use Rattle.sy_scope_steps.specs.Seen.{collected_of}
use Rattle.sy_scope_steps.proofs.group.read_rules.Given as goal

abbrev pub invariant-loop-item : goal.invariant-loop-item
invariant-loop-item g l =
    spec.read_rules (environment_of l.env) l.sort (collected_of g.T.Theory.denotes l.collected) (items_in l.left)
    ≡ spec.read_rules (environment_of l.env) l.sort (collected_of g.T.Theory.denotes l.fn.before) l.items

abbrev pub decreases-loop-item : goal.decreases-loop-item
decreases-loop-item g l = length (listed (items_in l.left))
