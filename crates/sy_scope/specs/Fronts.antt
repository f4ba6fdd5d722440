-- The front of a file: its bytes before the reply part.
use Rattle.std.specs.Prelude.{ℕ, zero, suc, ◌+◌, Bool, true, not, is_some, List, length, take, drop, Option, Some, None, Result, Ok, Err, if◌then◌else◌}
use Rattle.sy_text_items.specs.Items.{Item, leaf, group, none, more}
use Rattle.sy_text_items.specs.declared.fault.TextFault.{TextFault}
use Rattle.sy_text.specs.Reading.{command_at}
use Rattle.sy_forms_items.specs.Parts.{place_of, symbol}

-- an item that begins a reply part: an atom, the empty list, or a list whose first part is no symbol
abbrev pub begins_replies : Item → Bool
begins_replies (leaf atom place) = true
begins_replies (group none place) = true
begins_replies (group (more first rest) place) = not (is_some (symbol first))

abbrev pub read_well : Result (Option (Item × ℕ)) TextFault → Option (Item × ℕ)
read_well (Ok found) = found
read_well (Err fault) = None

-- the next item from an offset on, and the offset behind it; a fault of the text is no item
abbrev pub item_at : List ℕ → ℕ → Option (Item × ℕ)
item_at file at = read_well (command_at (length file) (drop at file))

-- the front ends where the reply part begins, or with the file
abbrev pub front_by : List ℕ → Option (Item × ℕ) → (ℕ → ℕ) → ℕ
front_by file None next = length file
front_by file (Some x) next = if begins_replies x.0 then (place_of x.0).at else next x.1

-- how long the front is, by the items from an offset on; the first argument bounds how many there are
unfoldable pub front_from : ℕ → List ℕ → ℕ → ℕ
front_from zero file at = length file
front_from (suc most) file at = front_by file (item_at file at) (front_from most file)

-- each item takes a byte or more
abbrev pub front_length : List ℕ → ℕ
front_length file = front_from (length file + 1) file 0

abbrev pub front : List ℕ → List ℕ
front file = take (front_length file) file
