-- Terms, read with each node before its parts, and the first condition that doesn't hold.
use Rattle.std.specs.Prelude.{ℕ, ◌^◌, List, [], ◌∷◌, ◌++◌, length, Bool, true, false, not, ◌&&◌, ◌||◌, nat_eq, nat_lt, Option, Some, None, is_some, Ok, pos, bytes_eq, codes, if◌then◌else◌}
use Rattle.std.specs.List.{list_all}
use Rattle.sy_text_items.specs.Items.{Item, leaf, group, Items, none, more}
use Rattle.sy_text_items.specs.Lexicon.{digit, value_in}
use Rattle.sy_text_items.specs.declared.atom.Atom.{Atom}
use Rattle.sy_text_items.specs.declared.atom.Atom.TheVariants as atoms
use Rattle.sy_text_items.specs.declared.atom.Place.{Place}
use Rattle.sy_terms.specs.Values.{Val, Truth}
use Rattle.sy_terms.specs.Fitting.{same_sorts}
use Rattle.sy_terms.specs.Sorts.{sort_of, same_sort}
use Rattle.sy_terms.specs.Theories.{value_at}
use Rattle.sy_terms.specs.declared.op.Op.{Op}
use Rattle.sy_terms.specs.declared.sort.Logic.{Logic}
use Rattle.sy_terms.specs.declared.sort.Logic.TheVariants.{Lia, Bv}
use Rattle.sy_terms.specs.declared.sort.Sort.{Sort}
use Rattle.sy_terms.specs.declared.sort.Sort.TheVariants as sorts
use Rattle.sy_terms.specs.declared.sorts.Sorted.{Sorted}
use Rattle.sy_terms.specs.declared.sorts.Sorted.TheVariants.{Is, Mismatch, BadWidth}
use Rattle.sy_terms.specs.declared.term.Fun.{Fun}
use Rattle.sy_scope_causes.specs.declared.cause.Cause.TheVariants as cause
use Rattle.sy_forms_items.specs.declared.parts.Indices.{Indices}
use Rattle.sy_forms_items.specs.declared.parts.Indices.TheVariants.{One}
use Rattle.sy_forms_items.specs.declared.names.Named.{Named}
use Rattle.sy_forms_items.specs.declared.names.Role.{Role}
use Rattle.sy_forms_items.specs.declared.names.Role.TheVariants as role
use Rattle.sy_forms_items.specs.Environments as env
use Rattle.sy_forms_items.specs.Environments.{Environment, Sense, sense_of, place_among}
use Rattle.sy_forms_items.specs.Measures.{Measures, is_within_limits}
use Rattle.sy_forms_items.specs.Operators.{operator_named, indexed_operator, are_small, at_count, is_reserved}
use Rattle.sy_forms_linear.specs.Linear.{is_linear}
use Rattle.sy_forms_items.specs.Parts.{place_of, symbol_in, is_symbol, has_no_items, indexed_name}
use Rattle.sy_forms_items.specs.Phrases as phrase
use Rattle.sy_forms_items.specs.Phrases.{Phrase, Phrases, Typed, Several, no_terms, behind}
use Rattle.sy_forms_items.specs.Readings.{Reading, refuse, ◌>>=◌}
use Rattle.sy_forms_items.specs.Sorts.{is_width}

abbrev pub typed : Phrase → Sort → Reading Typed
typed phrase sort = Ok (record { phrase = phrase; sort = sort })

-- Literals

abbrev pub literal_as : Place → Sort → Option Val → Reading Typed
literal_as place sort None = refuse place cause.LiteralRange
literal_as place sort (Some value) = typed (phrase.Literal value) sort

-- the value of the sort that the number stands for
abbrev pub number_as : Place → Sort → ℕ → Reading Typed
number_as place sort n = if nat_lt n (2 ^ 127) then literal_as place sort (value_at sort (pos n)) else refuse place cause.LiteralRange

-- a numeral is an integer in LIA
abbrev pub numeral_term : Logic → Place → ℕ → Reading Typed
numeral_term Lia place n = number_as place sorts.Int n
numeral_term Bv place n = refuse place cause.SortMismatch

-- a vector literal is a vector in BV
abbrev pub vector_term : Logic → Place → ℕ → ℕ → Reading Typed
vector_term Lia place width n = refuse place cause.SortMismatch
vector_term Bv place width n = number_as place (sorts.Bits width) n

-- `0`, or digits of which the first isn't `0`
abbrev pub is_number : List ℕ → Bool
is_number [] = false
is_number (d ∷ []) = digit d
is_number (d ∷ e ∷ rest) = not (nat_eq d 48) && list_all digit (d ∷ e ∷ rest)

-- the N of `bvN`
abbrev pub bv_number : List ℕ → Option ℕ
bv_number (b ∷ v ∷ digits) = if nat_eq b 98 && nat_eq v 118 && is_number digits then Some (value_in 10 digits) else None
bv_number _ = None

abbrev pub bv_literal : Place → Option ℕ → Indices → Reading Typed
bv_literal place (Some n) (One w) = if is_width w then number_as place (sorts.Bits w) n else refuse place cause.Width
bv_literal place _ _ = refuse place cause.UnknownName

-- a list that begins with `_`, by its name and indices
abbrev pub indexed_term : Logic → Place → Option (List ℕ × Indices) → Reading Typed
indexed_term logic place None = refuse place cause.Shape
indexed_term Lia place (Some x) = refuse place cause.UnknownName
indexed_term Bv place (Some x) = bv_literal place (bv_number x.0) x.1

-- Names

-- a name that stands for nothing that is declared
abbrev pub undeclared_term : Logic → Place → List ℕ → Reading Typed
undeclared_term logic place name =
    if bytes_eq name (codes "true") then typed (phrase.Literal (Truth true)) sorts.Bool
    else if bytes_eq name (codes "false") then typed (phrase.Literal (Truth false)) sorts.Bool
    else refuse place (if is_some (operator_named logic name) then cause.SortMismatch else cause.UnknownName)

-- a function that stands alone has no arguments
abbrev pub alone : Place → Fun → List Sort → Sort → Reading Typed
alone place function [] gives = typed (phrase.Invocation function phrase.none) gives
alone place function (s ∷ takes) gives = refuse place cause.SortMismatch

abbrev pub name_term : Logic → Place → List ℕ → Option Sense → Reading Typed
name_term logic place name (Some (env.Local level sort)) = typed (phrase.Local level) sort
name_term logic place name (Some (env.Nonterminal number sort)) = typed (phrase.Nonterminal number) sort
name_term logic place name (Some (env.Argument position sort)) = typed (phrase.Position position) sort
name_term logic place name (Some (env.Variable position sort)) = typed (phrase.Position position) sort
name_term logic place name (Some (env.Function function takes gives)) = alone place function takes gives
name_term logic place name (Some env.Withheld) = refuse place cause.FunctionNotHere
name_term logic place name None = undeclared_term logic place name

-- an atom: a name, a numeral or a vector literal
unfoldable pub atom_term : Environment → List Named → Place → Atom → Reading Typed
atom_term env locals place (atoms.Symbol name) = name_term env.logic place name (sense_of env locals name)
atom_term env locals place (atoms.Numeral n) = numeral_term env.logic place n
atom_term env locals place (atoms.Bits width n) = vector_term env.logic place width n
atom_term env locals place (atoms.Keyword name) = refuse place cause.Shape
atom_term env locals place (atoms.Decimal name) = refuse place cause.Shape
atom_term env locals place (atoms.Text name) = refuse place cause.Shape

-- Heads of lists

-- an operator, or a function with the sorts of its arguments and of its value
pub data Head : Type 0 where
  Operator : (operator : Op) → Head
  Function : (function : Fun) → (takes : List Sort) → (gives : Sort) → Head

abbrev pub operator_head : Place → Option Op → Reading Head
operator_head place None = refuse place cause.UnknownName
operator_head place (Some operator) = Ok (Operator operator)

abbrev pub name_head : Logic → Place → List ℕ → Option Sense → Reading Head
name_head logic place name (Some (env.Local level sort)) = refuse place cause.SortMismatch
name_head logic place name (Some (env.Nonterminal number sort)) = refuse place cause.SortMismatch
name_head logic place name (Some (env.Argument position sort)) = refuse place cause.SortMismatch
name_head logic place name (Some (env.Variable position sort)) = refuse place cause.SortMismatch
name_head logic place name (Some (env.Function function takes gives)) = Ok (Function function takes gives)
name_head logic place name (Some env.Withheld) = refuse place cause.FunctionNotHere
name_head logic place name None = operator_head place (operator_named logic name)

-- each index is at most 64
abbrev pub small_head : Place → Indices → Option Op → Reading Head
small_head place indices None = refuse place cause.UnknownName
small_head place indices (Some operator) = if are_small indices then Ok (Operator operator) else refuse place cause.Width

abbrev pub indexed_head : Logic → Place → Option (List ℕ × Indices) → Reading Head
indexed_head logic place None = refuse place cause.Shape
indexed_head Lia place (Some x) = refuse place cause.UnknownName
indexed_head Bv place (Some x) = small_head place x.1 (indexed_operator x.0 x.1)

abbrev pub list_head : Logic → Place → Items → Reading Head
list_head logic place none = refuse place cause.Shape
list_head logic place (more first rest) = if is_symbol (codes "_") first then indexed_head logic place (indexed_name rest) else refuse place cause.Shape

abbrev pub atom_head : Environment → List Named → Place → Option (List ℕ) → Reading Head
atom_head env locals place None = refuse place cause.UnknownName
atom_head env locals place (Some name) = name_head env.logic place name (sense_of env locals name)

unfoldable pub read_head : Environment → List Named → Item → Reading Head
read_head env locals (leaf atom place) = atom_head env locals place (symbol_in atom)
read_head env locals (group parts place) = list_head env.logic place parts

-- Applications

abbrev pub operation_by : List Bool → List Bool → Place → Op → Phrases → Sorted → Reading Typed
operation_by constants divisors place operator arguments (Is sort) =
    if is_linear constants divisors operator arguments then typed (phrase.Operation operator arguments) sort else refuse place cause.Nonlinear
operation_by constants divisors place operator arguments Mismatch = refuse place cause.SortMismatch
operation_by constants divisors place operator arguments BadWidth = refuse place cause.Width

abbrev pub operator_read : List Bool → List Bool → Place → Op → Several → Reading Typed
operator_read constants divisors place operator arguments = operation_by constants divisors place operator arguments.phrases (sort_of operator arguments.sorts)

-- a head at arguments
unfoldable pub head_applied : List Bool → List Bool → Place → Head → Several → Reading Typed
head_applied constants divisors place (Operator operator) arguments = operator_read constants divisors place (at_count (length arguments.sorts) operator) arguments
head_applied constants divisors place (Function function takes gives) arguments =
    if same_sorts arguments.sorts takes then typed (phrase.Invocation function arguments.phrases) gives else refuse place cause.SortMismatch

-- Let

-- let names with the sorts of their terms, and the terms
pub record Bounds : Type 0 where
  pub names : List Named
  pub terms : Phrases

abbrev pub unbound : Bounds
unbound = record { names = []; terms = phrase.none }

-- a binding: the name with its term's sort, and the term
pub record Bound : Type 0 where
  pub named : Named
  pub phrase : Phrase

abbrev pub bound_to : List ℕ → Typed → Bound
bound_to name term = record { named = record { name = name; sort = term.sort }; phrase = term.phrase }

-- with one more at the end
abbrev pub bound_behind : Bounds → Bound → Bounds
bound_behind done last = record { names = done.names ++ last.named ∷ []; terms = phrase.append_phrases done.terms (phrase.more last.phrase phrase.none) }

-- a let with its bindings and its inner term
abbrev pub let_term : Bounds → Typed → Reading Typed
let_term bound inner = typed (phrase.Let bound.terms inner.phrase) inner.sort

-- a name that is neither reserved nor one of these
abbrev pub new_symbol : Logic → List Named → Place → Place → Option (List ℕ) → Reading (List ℕ)
new_symbol logic taken place at None = refuse place cause.Shape
new_symbol logic taken place at (Some name) = if is_reserved logic name || is_some (place_among name taken) then refuse at cause.NameTaken else Ok name

-- the name of the binding that stands at a place, where these names are taken
abbrev pub new_binding_name : Logic → List Named → Place → Item → Reading (List ℕ)
new_binding_name logic taken place (leaf atom at) = new_symbol logic taken place at (symbol_in atom)
new_binding_name logic taken place (group parts at) = refuse place cause.Shape

-- in a grammar there is no let
abbrev pub let_may_stand : Role → Bool
let_may_stand role.Grammar = false
let_may_stand _ = true

-- Terms

unfoldable mutual
  -- the term, where these let names are in force, from the outermost
  pub read_term : Environment → List Named → Item → Reading Typed
  read_term env locals (leaf atom place) = atom_term env locals place atom
  read_term env locals (group parts place) = read_list env locals place parts

  pub read_list : Environment → List Named → Place → Items → Reading Typed
  read_list env locals place none = refuse place cause.Shape
  read_list env locals place (more head rest) =
      if is_symbol (codes "let") head then (if let_may_stand env.role then read_let env locals place rest else refuse place cause.Shape)
      else if is_symbol (codes "_") head then indexed_term env.logic place (indexed_name rest)
      else (read_head env locals head >>= λ found. read_terms env locals no_terms rest >>= λ arguments. head_applied env.constants env.divisors place found arguments)

  -- terms from left to right, behind others
  pub read_terms : Environment → List Named → Several → Items → Reading Several
  read_terms env locals done none = Ok done
  read_terms env locals done (more first rest) = read_term env locals first >>= λ x. read_terms env locals (behind done x) rest

  -- behind `let`: a list of one binding or more, and the inner term
  pub read_let : Environment → List Named → Place → Items → Reading Typed
  read_let env locals place none = refuse place cause.Shape
  read_let env locals place (more bindings rest) = read_let_in env locals place (read_binding_list env locals place bindings) rest

  pub read_let_in : Environment → List Named → Place → Reading Bounds → Items → Reading Typed
  read_let_in env locals place bound none = refuse place cause.Shape
  read_let_in env locals place bound (more inner none) =
      bound >>= λ bs. read_term env (locals ++ bs.names) inner >>= λ x. let_term bs x
  read_let_in env locals place bound (more inner (more next rest)) = refuse place cause.Shape

  pub read_binding_list : Environment → List Named → Place → Item → Reading Bounds
  read_binding_list env locals place (leaf atom at) = refuse place cause.Shape
  read_binding_list env locals place (group bindings at) = if has_no_items bindings then refuse place cause.Shape else read_bindings env locals unbound bindings

  -- bindings from left to right, behind others
  pub read_bindings : Environment → List Named → Bounds → Items → Reading Bounds
  read_bindings env locals bound none = Ok bound
  read_bindings env locals bound (more first rest) = read_binding env locals bound.names first >>= λ b. read_bindings env locals (bound_behind bound b) rest

  -- `(x t)`, where these names are taken
  pub read_binding : Environment → List Named → List Named → Item → Reading Bound
  read_binding env locals taken (leaf atom place) = refuse place cause.Shape
  read_binding env locals taken (group parts place) = read_pair env locals taken place parts

  pub read_pair : Environment → List Named → List Named → Place → Items → Reading Bound
  read_pair env locals taken place none = refuse place cause.Shape
  read_pair env locals taken place (more name rest) = read_bound env locals place (new_binding_name env.logic taken place name) rest

  pub read_bound : Environment → List Named → Place → Reading (List ℕ) → Items → Reading Bound
  read_bound env locals place name none = refuse place cause.Shape
  read_bound env locals place name (more term none) = name >>= λ x. read_term env locals term >>= λ t. Ok (bound_to x t)
  read_bound env locals place name (more term (more next rest)) = refuse place cause.Shape

-- the inner term under bindings
abbrev pub read_inner : Environment → List Named → Bounds → Item → Reading Typed
read_inner env locals bs inner = read_term env (locals ++ bs.names) inner >>= λ x. let_term bs x

-- Whole terms

abbrev pub of_sort : Measures → Sort → Place → Typed → Reading Phrase
of_sort measures sort place x =
    if same_sort x.sort sort then (if is_within_limits measures x.phrase then Ok x.phrase else refuse place cause.TooMany)
    else refuse place cause.SortMismatch

-- a whole body, constraint or assumption: a term of the sort whose unfolded size and depth are small
abbrev pub read_whole : Environment → Measures → Sort → Item → Reading Phrase
read_whole env measures sort item = read_term env [] item >>= λ x. of_sort measures sort (place_of item) x
