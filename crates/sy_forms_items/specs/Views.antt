-- What the crate's types stand for.
use Rattle.std.specs.Prelude.{ℕ, List}
use Rattle.std.specs.Borrow.{Bor}
use Rattle.sy_text_items.specs.Items.{Items}
use Rattle.sy_forms_items.specs.Parts.{items_from}
use Rattle.sy_forms_items.specs.declared.parts.Indices.{Indices}
use Rattle.sy_forms_items.specs.declared.parts.Rest.{Rest}

-- the items that are left
abbrev pub items_in : Rest → Items
items_in rest = items_from rest.from rest.items.now

abbrev pub indexed_of : Bor (List ℕ) × Indices → List ℕ × Indices
indexed_of x = (x.0.now, x.1)
