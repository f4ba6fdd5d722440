use Rattle.std.proofs.Common.{◌≡◌, ◌++◌, drop}
use Rattle.sy_text_items.specs.Items.{listed}
use Rattle.sy_forms_linear.specs.Flags as spec
use Rattle.sy_forms_items.specs.Seen.{environment_of}
use Rattle.sy_forms_items.specs.Views.{items_in}
use Rattle.sy_forms_linear.proofs.flags.groups_of_kind.Given as goal

abbrev pub invariant-loop-named : goal.invariant-loop-named
invariant-loop-named l =
    l.flags ++ spec.groups_of_kind l.kind (environment_of l.env) (drop l.named-index l.nonterminals) (listed (items_in l.left)) ≡ spec.groups_of_kind l.kind (environment_of l.env) l.nonterminals (listed l.groups)
