-- The parts of a reply: definitions `(define-fun name ((x s) ..) s t)`.
use Rattle.std.specs.Prelude.{ℕ, List, Bool, true, false, ◌&&◌, is_some, Option, Some, None, codes, if◌then◌else◌}
use Rattle.sy_text_items.specs.Items.{Item, leaf, group, Items, none, more}
use Rattle.sy_text_items.specs.declared.atom.Place.{Place}
use Rattle.sy_forms_items.specs.Parts.{symbol, is_symbol}
use Rattle.sy_scope_names.specs.Requests.{Spelled, Request, define_fun, ToDefine}

-- the name, the arguments, the sort and the body of a definition, and where its bracket stands
pub record Part : Type 0 where
  pub name : Spelled
  pub arguments : Items
  pub sort : Item
  pub body : Item
  pub place : Place

-- `(x s)`
abbrev pub is_pair : Items → Bool
is_pair (more name (more sort none)) = is_some (symbol name)
is_pair _ = false

abbrev pub is_argument : Item → Bool
is_argument (leaf atom place) = false
is_argument (group parts place) = is_pair parts

abbrev pub are_arguments : Items → Bool
are_arguments none = true
are_arguments (more first rest) = is_argument first && are_arguments rest

abbrev pub part_asked : Place → Option Request → Option Part
part_asked place (Some (ToDefine name arguments sort body)) =
    if are_arguments arguments then Some (record { name = name; arguments = arguments; sort = sort; body = body; place = place }) else None
part_asked place _ = None

-- a `define-fun` as a command writes it, with arguments `(x s)`
unfoldable pub part_of : Item → Option Part
part_of (group (more head parts) place) = if is_symbol (codes "define-fun") head then part_asked place (define_fun parts) else None
part_of _ = None
