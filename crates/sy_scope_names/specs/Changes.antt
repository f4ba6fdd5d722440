-- What commands in which no term stands do to a context, and what a command adds once its term was read.
use Rattle.std.specs.Prelude.{ℕ, ◌+◌, ◌*◌, List, [], ◌∷◌, ◌++◌, length, Bool, true, false, ◌&&◌, nat_lt, Option, Some, None, Ok, bytes_eq, codes, if◌then◌else◌}
use Rattle.sy_text_items.specs.Items.{Item, leaf, group, Items, none, more}
use Rattle.sy_text_items.specs.declared.atom.Place.{Place}
use Rattle.sy_terms.specs.Fitting.{same_sorts}
use Rattle.sy_terms.specs.Sorts.{same_sort}
use Rattle.sy_terms.specs.declared.sort.Logic.{Logic}
use Rattle.sy_terms.specs.declared.sort.Logic.TheVariants.{Lia, Bv}
use Rattle.sy_terms.specs.declared.sort.Sort.{Sort}
use Rattle.sy_terms.specs.declared.sort.Sort.TheVariants as sorts
use Rattle.sy_terms.specs.declared.term.Fun.{Fun}
use Rattle.sy_terms.specs.declared.term.Fun.TheVariants as funs
use Rattle.sy_scope_causes.specs.declared.cause.Cause.TheVariants as cause
use Rattle.sy_forms_items.specs.declared.names.Entity.{Entity}
use Rattle.sy_forms_items.specs.declared.names.Entity.TheVariants as entity
use Rattle.sy_forms_items.specs.Environments.{entry_under}
use Rattle.sy_terms.specs.Values.{Val}
use Rattle.sy_forms_items.specs.Measures.{Measures, unfolded_size, unfolded_depth, literals_in}
use Rattle.sy_forms_items.specs.Parts.{symbol, place_of}
use Rattle.sy_forms_items.specs.Phrases.{Phrase}
use Rattle.sy_forms_items.specs.Readings.{Reading, refuse, found_or, ◌>>=◌}
use Rattle.sy_forms_items.specs.Sorts.{read_sort}
use Rattle.sy_scope_names.specs.Lists.{sorts_of_names}
use Rattle.sy_scope_names.specs.Pools.{pooled}
use Rattle.sy_inv.specs.Conditions.{starts, keeps, ends}
use Rattle.sy_scope_names.specs.Contexts.{Context, Definition, Sought, Expanded, has_room, new_name, new_sort_name, with_logic, question_at}
use Rattle.sy_scope_names.specs.declared.commands.Command.{Command}
use Rattle.sy_scope_names.specs.Requests.{Request, Spelled, command_named, request_of}

-- `set-logic`

abbrev pub logic_named : List ℕ → Option Logic
logic_named name = if bytes_eq name (codes "BV") then Some Bv else if bytes_eq name (codes "LIA") then Some Lia else None

-- no logic was set
abbrev pub first_logic : Option Logic → Option Logic → Option Logic
first_logic None named = named
first_logic (Some logic) named = None

abbrev pub set_logic : Context → Spelled → Reading Context
set_logic context name =
    found_or name.place cause.Logic (first_logic context.logic (logic_named name.name)) >>= λ logic. Ok (with_logic logic context)

-- `set-feature`: grammars alone can be switched on
abbrev pub feature_set : Spelled → Bool → Reading (Unit {0})
feature_set feature true = if bytes_eq feature.name (codes "grammars") then Ok tt else refuse feature.place cause.Feature
feature_set feature false = Ok tt

abbrev pub set_feature : Context → Spelled → Bool → Reading Context
set_feature context feature on = feature_set feature on >>= λ done. Ok context

-- `declare-var`
abbrev pub with_variable : Context → List ℕ → Sort → Context
with_variable context name sort = record context {
  entities = context.entities ++ (name, entity.Variable (length context.variables) sort) ∷ [];
  variables = context.variables ++ sort ∷ [];
}

abbrev pub declare_variable : Context → Logic → Spelled → Item → Reading Context
declare_variable context logic name sort =
    new_name context logic name.place name.name >>= λ new. read_sort logic context.sorts sort >>= λ found. Ok (with_variable context new found)

-- `define-sort`
abbrev pub define_sort : Context → Logic → Spelled → Item → Reading Context
define_sort context logic name sort =
    new_sort_name context logic name.place name.name >>= λ new. read_sort logic context.sorts sort >>= λ found. Ok (record context { sorts = context.sorts ++ (new, found) ∷ [] })

-- `define-fun`: the definitions with one more
abbrev pub measured : Measures → Phrase → Measures
measured measures body = record {
  sizes = measures.sizes ++ unfolded_size measures.sizes body ∷ [];
  depths = measures.depths ++ unfolded_depth measures.depths body ∷ [];
}

abbrev pub with_definition : Context → Definition → Context
with_definition context definition = record context {
  entities = context.entities ++ (definition.name, entity.Function (funs.Defined (length context.definitions)) (sorts_of_names definition.arguments) definition.sort) ∷ [];
  definitions = context.definitions ++ definition ∷ [];
  measures = measured context.measures definition.body;
  pool = pooled context.pool (literals_in definition.body);
}

-- `synth-fun` and `synth-inv`: the functions to be found with one more
abbrev pub with_sought : Context → Sought → List Val → Context
with_sought context sought values = record context {
  entities = context.entities ++ (sought.name, entity.Function (funs.Wanted (length context.sought)) (sorts_of_names sought.arguments) sought.sort) ∷ [];
  sought = context.sought ++ sought ∷ [];
  pool = pooled context.pool values;
}

-- the sort that is written, or that of an invariant
abbrev pub value_sort : Context → Logic → Option Item → Reading Sort
value_sort context logic None = Ok sorts.Bool
value_sort context logic (Some sort) = read_sort logic context.sorts sort

-- `inv-constraint`

-- a function, by its number, and its signature
pub record Called : Type 0 where
  pub function : Fun
  pub takes : List Sort
  pub gives : Sort

abbrev pub called_function : Option Entity → Option Called
called_function None = None
called_function (Some (entity.Variable position sort)) = None
called_function (Some (entity.Function function takes gives)) = Some (record { function = function; takes = takes; gives = gives })

-- the declared function of this name
abbrev pub function_named : Context → Spelled → Reading Called
function_named context name = found_or name.place cause.UnknownName (called_function (entry_under name.name context.entities))

abbrev pub invariant_number : Fun → Option ℕ
invariant_number (funs.Wanted number) = Some number
invariant_number (funs.Defined number) = None

abbrev pub called_definition : Fun → Option ℕ
called_definition (funs.Defined number) = Some number
called_definition (funs.Wanted number) = None

-- a function to be found with a truth value
abbrev pub as_invariant : Spelled → Called → Reading ℕ
as_invariant name f =
    if same_sort f.gives sorts.Bool then found_or name.place cause.InvShape (invariant_number f.function) else refuse name.place cause.InvShape

-- a definition of a truth value with arguments of these sorts
abbrev pub as_condition : Spelled → List Sort → Called → Reading ℕ
as_condition name takes f =
    if same_sort f.gives sorts.Bool && same_sorts f.takes takes then found_or name.place cause.InvShape (called_definition f.function) else refuse name.place cause.InvShape

-- the numbers of the functions of an `inv-constraint`
pub record Parts : Type 0 where
  pub invariant : ℕ
  pub before : ℕ
  pub step : ℕ
  pub after : ℕ

-- the three conditions over fresh variables for a state and the next
abbrev pub with_invariant : Context → List Sort → Parts → Context
with_invariant context state parts = record context {
  variables = context.variables ++ (state ++ state);
  fresh = context.fresh + 2 * length state;
  constraints = context.constraints ++
      Expanded (starts (length state) parts.before parts.invariant (length context.variables)) ∷
      Expanded (keeps (length state) parts.step parts.invariant (length context.variables)) ∷
      Expanded (ends (length state) parts.after parts.invariant (length context.variables)) ∷ [];
}

abbrev pub add_invariant : Context → Place → List Sort → Parts → Reading Context
add_invariant context place state parts = if has_room context (2 * length state) then Ok (with_invariant context state parts) else refuse place cause.TooMany

-- the functions' numbers, where each has its form
abbrev pub invariant_parts : Spelled → Spelled → Spelled → Spelled → Called → Called → Called → Called → Reading Parts
invariant_parts invariant before step after i p t q =
    as_invariant invariant i >>= λ inv.
    as_condition before i.takes p >>= λ pre.
    as_condition step (i.takes ++ i.takes) t >>= λ trans.
    as_condition after i.takes q >>= λ post.
    Ok (record { invariant = inv; before = pre; step = trans; after = post })

-- all four names are looked up first; then each function has its form
abbrev pub constrain_invariant : Context → Place → Spelled → Spelled → Spelled → Spelled → Reading Context
constrain_invariant context place invariant before step after =
    function_named context invariant >>= λ i.
    function_named context before >>= λ p.
    function_named context step >>= λ t.
    function_named context after >>= λ q.
    invariant_parts invariant before step after i p t q >>= λ parts.
    add_invariant context place i.takes parts

-- `check-synth`: at most 16
abbrev pub with_question : Context → Context
with_question context = record context { questions = context.questions ++ question_at context ∷ [] }

abbrev pub check_synth : Context → Place → Reading Context
check_synth context at = if nat_lt (length context.questions) 16 then Ok (with_question context) else refuse at cause.TooMany

-- Commands

-- what a command asks for, and the places of its bracket and its name
pub record PlacedRequest : Type 0 where
  pub request : Request
  pub place : Place
  pub at : Place

abbrev pub request_asked : Place → Place → Option Request → Reading PlacedRequest
request_asked place at None = refuse place cause.Shape
request_asked place at (Some request) = Ok (record { request = request; place = place; at = at })

abbrev pub asked_as : Place → Place → Option Command → Items → Reading PlacedRequest
asked_as place at None parts = refuse at cause.CommandNotInProfile
asked_as place at (Some command) parts = request_asked place at (request_of command parts)

abbrev pub asked_named : Place → Place → Option (List ℕ) → Items → Reading PlacedRequest
asked_named place at None parts = refuse place cause.Shape
asked_named place at (Some name) parts = asked_as place at (command_named name) parts

-- a command is a list that begins with a symbol
abbrev pub command_asked : Item → Reading PlacedRequest
command_asked (leaf atom place) = refuse place cause.Shape
command_asked (group none place) = refuse place cause.Shape
command_asked (group (more head parts) place) = asked_named place (place_of head) (symbol head) parts
