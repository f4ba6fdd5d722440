-- Items of the program as items of the definitions.
use Rattle.std.specs.Prelude.{ℕ, List, [], ◌∷◌, Option, Some, None}
use Rattle.sy_text_items.specs.Items.{Item, leaf, group, Items, none, more}
use Rattle.sy_text_items.specs.declared.sexp.Sexp.{Sexp}
use Rattle.sy_text_items.specs.declared.sexp.Sexp.TheVariants as sexp

abbrev pub item_of : Sexp → Item
item_of (sexp.Atom a p) = leaf a p
item_of (sexp.List xs p) = group xs p

abbrev pub items_of : List Sexp → Items
items_of [] = none
items_of (x ∷ xs) = more (item_of x) (items_of xs)

-- what next_command gives
abbrev pub command_of : Option (Sexp × ℕ) → Option (Item × ℕ)
command_of None = None
command_of (Some x) = Some (item_of x.0, x.1)
