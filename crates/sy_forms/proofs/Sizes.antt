-- Sizes of items.
use Rattle.std.proofs.Common.{◌≡◌, ◌≤◌, ◌+◌, ap, arith}
use Rattle.std.specs.Prelude.{ℕ, List, Ok, Err}
use Rattle.sy_text_items.specs.declared.atom.Place.{Place}
use Rattle.sy_terms.specs.declared.sort.Logic.{Logic}
use Rattle.sy_forms_items.specs.declared.names.Named.{Named}
use Rattle.sy_forms_items.specs.Readings.{Reading, ◌>>=◌}
use Rattle.sy_forms.specs.Parts.{let_parts, binding_parts}
use Rattle.sy_forms.specs.Terms.{new_binding_name}
use Rattle.sy_text_items.specs.Items.{Item, leaf, group, Items, none, more, item_size, items_size}

pub item_size-pos : (x : Item) → 1 ≤ item_size x
item_size-pos (leaf atom place) = omega arith
item_size-pos (group items place) = omega arith

pub split_size : (items : Items) (first : Item) (rest : Items) → items ≡ more first rest → items_size items ≡ item_size first + items_size rest
split_size items first rest e = ap items_size e

pub inside : (item : Item) (parts : Items) (place : Place) (items : Items) → item ≡ group parts place → items ≡ parts → item_size item ≡ items_size items + 1
inside item parts place items e f = omega (arith, ap item_size e, ap items_size f)

-- the size of a `let`'s parts, with one for the list of bindings
abbrev pub parts_size : Reading (Items × Item) → ℕ
parts_size (Ok x) = items_size x.0 + 1 + item_size x.1
parts_size (Err e) = 0

pub let_parts-size : (place : Place) (items : Items) → parts_size (let_parts place items) ≤ items_size items
let_parts-size place none = omega arith
let_parts-size place (more bindings none) = omega arith
let_parts-size place (more (leaf atom at) (more inner none)) = omega arith
let_parts-size place (more (group none at) (more inner none)) = omega arith
let_parts-size place (more (group (more first rest) at) (more inner none)) = omega arith
let_parts-size place (more bindings (more inner (more next rest))) = omega arith

-- the size of a binding's term, with one for the binding
abbrev pub binding_size : Reading (List ℕ × Item) → ℕ
binding_size (Ok x) = item_size x.1 + 1
binding_size (Err e) = 0

named-size : (name : Reading (List ℕ)) (term : Item) → binding_size (name >>= λ x. Ok (x, term)) ≤ item_size term + 1
named-size (Ok x) term = omega arith
named-size (Err e) term = omega arith

pub binding_parts-size : (logic : Logic) (taken : List Named) (item : Item) → binding_size (binding_parts logic taken item) ≤ item_size item
binding_parts-size logic taken (leaf atom place) = omega arith
binding_parts-size logic taken (group none place) = omega arith
binding_parts-size logic taken (group (more name none) place) = omega arith
binding_parts-size logic taken (group (more name (more term none)) place) = omega (arith, named-size (new_binding_name logic taken place name) term)
binding_parts-size logic taken (group (more name (more term (more next rest))) place) = omega arith
