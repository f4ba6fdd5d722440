-- Sorts: `Bool`; `Int` in LIA; `(_ BitVec w)` in BV; an abbreviation.
use Rattle.std.specs.Prelude.{ℕ, List, Bool, ◌&&◌, Option, Some, None, bytes_eq, codes, nat_le, Ok, if◌then◌else◌}
use Rattle.sy_text_items.specs.Items.{Item, leaf, group, Items, none, more}
use Rattle.sy_text_items.specs.declared.atom.Place.{Place}
use Rattle.sy_terms.specs.declared.sort.Logic.{Logic}
use Rattle.sy_terms.specs.declared.sort.Logic.TheVariants.{Lia, Bv}
use Rattle.sy_terms.specs.declared.sort.Sort.{Sort}
use Rattle.sy_terms.specs.declared.sort.Sort.TheVariants as sorts
use Rattle.sy_scope_causes.specs.declared.cause.Cause.TheVariants as cause
use Rattle.sy_forms_items.specs.declared.parts.Indices.{Indices}
use Rattle.sy_forms_items.specs.declared.parts.Indices.TheVariants.{One, Two, More}
use Rattle.sy_forms_items.specs.Environments.{entry_under}
use Rattle.sy_forms_items.specs.Parts.{symbol_in, is_symbol, indexed_name}
use Rattle.sy_forms_items.specs.Readings.{Reading, refuse, found_or}

-- the sort of integers is a sort of LIA
abbrev pub int_in : Logic → Option Sort
int_in Lia = Some sorts.Int
int_in Bv = None

abbrev pub sort_named : Logic → List (List ℕ × Sort) → List ℕ → Option Sort
sort_named logic abbreviations name =
    if bytes_eq name (codes "Bool") then Some sorts.Bool
    else if bytes_eq name (codes "Int") then int_in logic
    else entry_under name abbreviations

abbrev pub is_width : ℕ → Bool
is_width w = nat_le 1 w && nat_le w 64

-- `BitVec` with its index
abbrev pub vector_sort : Place → Option (List ℕ × Indices) → Reading Sort
vector_sort place None = refuse place cause.UnknownSort
vector_sort place (Some (name, One w)) =
    if bytes_eq name (codes "BitVec") then (if is_width w then Ok (sorts.Bits w) else refuse place cause.Width) else refuse place cause.UnknownSort
vector_sort place (Some (name, Two i j)) = refuse place cause.UnknownSort
vector_sort place (Some (name, More)) = refuse place cause.UnknownSort

abbrev pub indexed_sort : Logic → Place → Items → Reading Sort
indexed_sort Lia place parts = refuse place cause.UnknownSort
indexed_sort Bv place none = refuse place cause.UnknownSort
indexed_sort Bv place (more head rest) = if is_symbol (codes "_") head then vector_sort place (indexed_name rest) else refuse place cause.UnknownSort

abbrev pub sort_by_name : Logic → List (List ℕ × Sort) → Place → Option (List ℕ) → Reading Sort
sort_by_name logic abbreviations place None = refuse place cause.Shape
sort_by_name logic abbreviations place (Some name) = found_or place cause.UnknownSort (sort_named logic abbreviations name)

unfoldable pub read_sort : Logic → List (List ℕ × Sort) → Item → Reading Sort
read_sort logic abbreviations (leaf atom place) = sort_by_name logic abbreviations place (symbol_in atom)
read_sort logic abbreviations (group parts place) = indexed_sort logic place parts
