-- What single items are.
use Rattle.std.specs.Prelude.{ℕ, zero, suc, List, Bool, true, false, ◌&&◌, Option, Some, None, is_some, bytes_eq, if◌then◌else◌}
use Rattle.std.specs.Option.{option_map}
use Rattle.sy_text_items.specs.Items.{Item, leaf, group, Items, none, more}
use Rattle.sy_text_items.specs.declared.atom.Atom.{Atom}
use Rattle.sy_text_items.specs.declared.atom.Atom.TheVariants as atoms
use Rattle.sy_text_items.specs.declared.atom.Place.{Place}
use Rattle.sy_forms_items.specs.declared.parts.Indices.{Indices}
use Rattle.sy_forms_items.specs.declared.parts.Indices.TheVariants.{One, Two, More}

-- where the item stands
abbrev pub place_of : Item → Place
place_of (leaf atom place) = place
place_of (group parts place) = place

-- the bytes of a symbol
abbrev pub symbol_in : Atom → Option (List ℕ)
symbol_in (atoms.Symbol bytes) = Some bytes
symbol_in _ = None

abbrev pub symbol : Item → Option (List ℕ)
symbol (leaf atom place) = symbol_in atom
symbol (group parts place) = None

-- the number of a numeral
abbrev pub numeral_in : Atom → Option ℕ
numeral_in (atoms.Numeral n) = Some n
numeral_in _ = None

abbrev pub numeral : Item → Option ℕ
numeral (leaf atom place) = numeral_in atom
numeral (group parts place) = None

abbrev pub is_name : List ℕ → Option (List ℕ) → Bool
is_name name None = false
is_name name (Some bytes) = bytes_eq bytes name

-- the item is this symbol
abbrev pub is_symbol : List ℕ → Item → Bool
is_symbol name item = is_name name (symbol item)

abbrev pub has_no_items : Items → Bool
has_no_items none = true
has_no_items (more first rest) = false

-- each item is a numeral
abbrev pub are_numerals : Items → Bool
are_numerals none = true
are_numerals (more first rest) = is_some (numeral first) && are_numerals rest

-- one index, two, or more
abbrev pub indices_by : Option ℕ → Option ℕ → Items → Option Indices
indices_by None second rest = None
indices_by (Some i) None rest = None
indices_by (Some i) (Some j) none = Some (Two i j)
indices_by (Some i) (Some j) (more third rest) = if are_numerals (more third rest) then Some More else None

abbrev pub indices_in : Items → Option Indices
indices_in none = None
indices_in (more first none) = option_map One (numeral first)
indices_in (more first (more second rest)) = indices_by (numeral first) (numeral second) rest

abbrev pub with_indices : Option (List ℕ) → Option Indices → Option (List ℕ × Indices)
with_indices None indices = None
with_indices (Some name) None = None
with_indices (Some name) (Some indices) = Some (name, indices)

-- the name and the indices behind `_`: a symbol, and one numeral or more
abbrev pub indexed_name : Items → Option (List ℕ × Indices)
indexed_name none = None
indexed_name (more name rest) = with_indices (symbol name) (indices_in rest)

-- the items from a place on
abbrev pub items_from : ℕ → Items → Items
items_from zero items = items
items_from (suc i) none = none
items_from (suc i) (more first rest) = items_from i rest
