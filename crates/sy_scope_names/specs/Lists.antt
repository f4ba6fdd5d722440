-- Lists of names with sorts: arguments, and predeclared nonterminals.
use Rattle.std.specs.Prelude.{ℕ, List, [], ◌∷◌, ◌++◌, map, length, ◌||◌, nat_lt, is_some, Option, Some, None, Ok, if◌then◌else◌}
use Rattle.sy_text_items.specs.Items.{Item, leaf, group, Items, none, more}
use Rattle.sy_text_items.specs.declared.atom.Place.{Place}
use Rattle.sy_terms.specs.Sorts.{same_sort}
use Rattle.sy_terms.specs.declared.sort.Logic.{Logic}
use Rattle.sy_terms.specs.declared.sort.Sort.{Sort}
use Rattle.sy_scope_causes.specs.declared.cause.Cause.TheVariants as cause
use Rattle.sy_forms_items.specs.declared.names.Named.{Named}
use Rattle.sy_forms_items.specs.Environments.{place_among}
use Rattle.sy_forms_items.specs.Operators.{is_reserved}
use Rattle.sy_forms_items.specs.Parts.{place_of, has_no_items}
use Rattle.sy_forms_items.specs.Readings.{Reading, refuse, ◌>>=◌}
use Rattle.sy_forms_items.specs.Sorts.{read_sort}
use Rattle.sy_scope_names.specs.Requests.{Listed, Spelled, symbol_spelled}

-- the sorts of names
abbrev pub sorts_of_names : List Named → List Sort
sorts_of_names named = map (λ (x : Named). x.sort) named

-- a name that is neither reserved nor one of these
abbrev pub free_name : Logic → List Named → List Named → Place → List ℕ → Reading (List ℕ)
free_name logic taken done at name =
    if is_reserved logic name || is_some (place_among name taken) || is_some (place_among name done) then refuse at cause.NameTaken else Ok name

-- `(x s)`, where these names are taken and those stand earlier in the list
abbrev pub named_by : List (List ℕ × Sort) → Logic → List Named → List Named → Place → Option Spelled → Item → Reading Named
named_by sorts logic taken done place None sort = refuse place cause.Shape
named_by sorts logic taken done place (Some x) sort =
    free_name logic taken done x.place x.name >>= λ free. read_sort logic sorts sort >>= λ found. Ok (record { name = free; sort = found })

abbrev pub named_pair : List (List ℕ × Sort) → Logic → List Named → List Named → Place → Items → Reading Named
named_pair sorts logic taken done place (more name (more sort none)) = named_by sorts logic taken done place (symbol_spelled name) sort
named_pair sorts logic taken done place _ = refuse place cause.Shape

unfoldable pub named_item : List (List ℕ × Sort) → Logic → List Named → List Named → Item → Reading Named
named_item sorts logic taken done (leaf atom place) = refuse place cause.Shape
named_item sorts logic taken done (group parts place) = named_pair sorts logic taken done place parts

-- at most 64 of them
abbrev pub counted : List Named → Place → Named → Reading (List Named)
counted done place x = if nat_lt (length done) 64 then Ok (done ++ x ∷ []) else refuse place cause.TooMany

-- the items from left to right, behind those before them
unfoldable pub read_named : List (List ℕ × Sort) → Logic → List Named → List Named → Items → Reading (List Named)
read_named sorts logic taken done none = Ok done
read_named sorts logic taken done (more first rest) =
    named_item sorts logic taken done first >>= λ x. counted done (place_of first) x >>= λ longer. read_named sorts logic taken longer rest

-- the sort of a list of a name and a sort
abbrev pub sort_of_pair : Item → Option Item
sort_of_pair (group (more name (more sort none)) place) = Some sort
sort_of_pair _ = None

-- the first sort of a predeclaration
abbrev pub first_sort : Items → Option Item
first_sort (more first rest) = sort_of_pair first
first_sort none = None

abbrev pub starts_with : Sort → Option Item → List Named → Reading (List Named)
starts_with sort (Some item) (x ∷ named) = if same_sort x.sort sort then Ok (x ∷ named) else refuse (place_of item) cause.SortMismatch
starts_with sort _ named = Ok named

-- one nonterminal or more, of which the first has the function's sort
abbrev pub read_predeclared : List (List ℕ × Sort) → Logic → List Named → Sort → Listed → Reading (List Named)
read_predeclared sorts logic arguments sort list =
    if has_no_items list.items then refuse list.place cause.Shape
    else (read_named sorts logic arguments [] list.items >>= λ named. starts_with sort (first_sort list.items) named)
