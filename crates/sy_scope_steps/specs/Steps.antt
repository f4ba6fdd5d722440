-- A command, with its conditions in order, takes one context to the next.
use Rattle.std.specs.Prelude.{List, [], ◌∷◌, ◌++◌, Option, Some, None, Ok}
use Rattle.sy_text_items.specs.Items.{Item, Items}
use Rattle.sy_text_items.specs.declared.atom.Place.{Place}
use Rattle.sy_terms.specs.declared.sort.Logic.{Logic}
use Rattle.sy_terms.specs.declared.sort.Sort.{Sort}
use Rattle.sy_terms.specs.declared.sort.Sort.TheVariants as sorts
use Rattle.sy_scope_causes.specs.declared.cause.Cause.TheVariants as cause
use Rattle.sy_forms_items.specs.declared.names.Named.{Named}
use Rattle.sy_forms_items.specs.declared.names.Role.{Role}
use Rattle.sy_forms_items.specs.declared.names.Role.TheVariants as role
use Rattle.sy_forms_items.specs.Environments.{Environment}
use Rattle.sy_forms_items.specs.Measures.{literals_in}
use Rattle.sy_forms_items.specs.Phrases.{Phrase}
use Rattle.sy_forms_items.specs.Readings.{Reading, refuse, ◌>>=◌}
use Rattle.sy_forms_items.specs.Sorts.{read_sort}
use Rattle.sy_forms.specs.Terms.{read_whole}
use Rattle.sy_scope_names.specs.Lists.{sorts_of_names, read_named}
use Rattle.sy_scope_steps.specs.Grammars.{Written, read_rulebook}
use Rattle.sy_grammar.specs.Defaults.{default_syntax}
use Rattle.sy_scope_names.specs.Pools.{pooled}
use Rattle.sy_scope_names.specs.Contexts.{Context, new_name, new_sought}
use Rattle.sy_scope_names.specs.Contexts as contexts
use Rattle.sy_scope_names.specs.Requests as requests
use Rattle.sy_scope_names.specs.Requests.{Request, Spelled, Rulebook}
use Rattle.sy_scope_names.specs.Changes.{set_logic, set_feature, declare_variable, define_sort, with_definition, with_sought, value_sort, constrain_invariant, check_synth, PlacedRequest, command_asked}

-- Terms in a context

abbrev pub environment : Context → Logic → Role → List Named → Environment
environment context logic role arguments = record {
  logic = logic;
  role = role;
  sorts = context.sorts;
  entities = context.entities;
  arguments = arguments;
  nonterminals = [];
  constants = [];
  divisors = [];
}

-- a whole term of the sort
abbrev pub read_in : Context → Logic → Role → List Named → Sort → Item → Reading Phrase
read_in context logic role arguments sort item = read_whole (environment context logic role arguments) context.measures sort item

-- `define-fun`
abbrev pub define : Context → Logic → Spelled → Items → Item → Item → Reading Context
define context logic name arguments sort body =
    new_name context logic name.place name.name >>= λ new.
    read_named context.sorts logic [] [] arguments >>= λ named.
    read_sort logic context.sorts sort >>= λ found.
    read_in context logic role.Body named found body >>= λ phrase.
    Ok (with_definition context (record { name = new; arguments = named; sort = found; body = phrase }))

-- the grammar that is written, or that of a function without one
abbrev pub read_grammar : Context → Logic → List Named → Sort → Option Rulebook → Reading Written
read_grammar context logic arguments sort None = Ok (record { grammar = default_syntax logic (sorts_of_names arguments) sort; values = [] })
read_grammar context logic arguments sort (Some book) = read_rulebook context.sorts context.entities logic arguments sort book

-- `synth-fun` and `synth-inv`
abbrev pub synthesise : Context → Logic → Spelled → Items → Option Item → Option Rulebook → Reading Context
synthesise context logic name arguments sort rules =
    new_sought context logic name.place name.name >>= λ new.
    read_named context.sorts logic [] [] arguments >>= λ named.
    value_sort context logic sort >>= λ found.
    read_grammar context logic named found rules >>= λ written.
    Ok (with_sought context (record { name = new; arguments = named; sort = found; grammar = written.grammar }) written.values)

-- `constraint` and `assume`
abbrev pub constrain : Context → Logic → Item → Reading Context
constrain context logic term =
    read_in context logic role.Constraint [] sorts.Bool term >>= λ phrase.
    Ok (record context { constraints = context.constraints ++ contexts.Written phrase ∷ []; pool = pooled context.pool (literals_in phrase) })

abbrev pub assume : Context → Logic → Item → Reading Context
assume context logic term =
    read_in context logic role.Assumption [] sorts.Bool term >>= λ phrase.
    Ok (record context { assumptions = context.assumptions ++ phrase ∷ []; pool = pooled context.pool (literals_in phrase) })

-- Commands

-- a command in a logic
unfoldable pub perform_in : Context → Logic → Place → Place → Request → Reading Context
perform_in context logic place at (requests.ToSetLogic name) = set_logic context name
perform_in context logic place at (requests.ToSetFeature feature on) = set_feature context feature on
perform_in context logic place at requests.ToNote = Ok context
perform_in context logic place at (requests.ToDeclareVariable name sort) = declare_variable context logic name sort
perform_in context logic place at (requests.ToDefineSort name sort) = define_sort context logic name sort
perform_in context logic place at (requests.ToDefine name arguments sort body) = define context logic name arguments sort body
perform_in context logic place at (requests.ToSynthesise name arguments sort rules) = synthesise context logic name arguments (Some sort) rules
perform_in context logic place at (requests.ToSynthesiseInvariant name arguments rules) = synthesise context logic name arguments None rules
perform_in context logic place at (requests.ToConstrain term) = constrain context logic term
perform_in context logic place at (requests.ToAssume term) = assume context logic term
perform_in context logic place at (requests.ToConstrainInvariant i p t q) = constrain_invariant context place i p t q
perform_in context logic place at requests.ToCheck = check_synth context at

-- a command before a logic was set
unfoldable pub perform_first : Context → Place → Request → Reading Context
perform_first context at (requests.ToSetLogic name) = set_logic context name
perform_first context at (requests.ToSetFeature feature on) = set_feature context feature on
perform_first context at requests.ToNote = Ok context
perform_first context at _ = refuse at cause.Logic

abbrev pub perform : Context → Option Logic → PlacedRequest → Reading Context
perform context None x = perform_first context x.at x.request
perform context (Some logic) x = perform_in context logic x.place x.at x.request

unfoldable pub step : Context → Item → Reading Context
step context item = command_asked item >>= λ x. perform context context.logic x
