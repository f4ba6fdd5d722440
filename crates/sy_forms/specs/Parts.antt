-- The parts of a `let` and of its bindings.
use Rattle.std.specs.Prelude.{ℕ, List, Option, Some, None, Ok, if◌then◌else◌}
use Rattle.sy_text_items.specs.Items.{Item, leaf, group, Items, none, more}
use Rattle.sy_text_items.specs.declared.atom.Place.{Place}
use Rattle.sy_terms.specs.declared.sort.Logic.{Logic}
use Rattle.sy_scope_causes.specs.declared.cause.Cause.TheVariants as cause
use Rattle.sy_forms_items.specs.declared.names.Named.{Named}
use Rattle.sy_forms_items.specs.Parts.{has_no_items}
use Rattle.sy_forms_items.specs.Readings.{Reading, refuse, ◌>>=◌}
use Rattle.sy_forms.specs.Terms.{new_binding_name}

-- two items, of a list that has no more
abbrev pub two_items : Items → Option (Item × Item)
two_items none = None
two_items (more first none) = None
two_items (more first (more second none)) = Some (first, second)
two_items (more first (more second (more next rest))) = None

abbrev pub let_of : Place → Item → Item → Reading (Items × Item)
let_of place (leaf atom at) inner = refuse place cause.Shape
let_of place (group bindings at) inner = if has_no_items bindings then refuse place cause.Shape else Ok (bindings, inner)

abbrev pub let_by : Place → Option (Item × Item) → Reading (Items × Item)
let_by place None = refuse place cause.Shape
let_by place (Some x) = let_of place x.0 x.1

-- behind `let`: one binding or more, and the inner term
abbrev pub let_parts : Place → Items → Reading (Items × Item)
let_parts place items = let_by place (two_items items)

abbrev pub binding_by : Logic → List Named → Place → Option (Item × Item) → Reading (List ℕ × Item)
binding_by logic taken place None = refuse place cause.Shape
binding_by logic taken place (Some x) = new_binding_name logic taken place x.0 >>= λ name. Ok (name, x.1)

-- the name and the term of `(x t)`, where these names are taken
abbrev pub binding_parts : Logic → List Named → Item → Reading (List ℕ × Item)
binding_parts logic taken (leaf atom place) = refuse place cause.Shape
binding_parts logic taken (group parts place) = binding_by logic taken place (two_items parts)
