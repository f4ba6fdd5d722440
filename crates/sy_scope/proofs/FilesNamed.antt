-- Commands keep what is asked titled.
use Rattle.std.specs.Prelude.{ℕ, zero, suc, ◌+◌, ◌*◌, ◌≤◌, Bool, true, nat_lt, List, [], ◌∷◌, length, map, Option, Some, None, Result, Ok, Err, ◌≡◌, ⊤, IfOk}
use Rattle.std.proofs.Common.{arith}
use Rattle.std.proofs.lemmas.List.{length-append}
use Rattle.std.proofs.lemmas.List.Elements.{All-nil, All-weaker, All-push}
use Rattle.sy_text_items.specs.Items.{Item, Items}
use Rattle.sy_text_items.specs.declared.atom.Place.{Place}
use Rattle.sy_terms.specs.declared.sort.Logic.{Logic}
use Rattle.sy_terms.specs.declared.sort.Sort.TheVariants as sorts
use Rattle.sy_scope_causes.specs.declared.cause.Cause.TheVariants as cause
use Rattle.sy_scope_causes.specs.declared.cause.Refused.{Refused}
use Rattle.sy_forms_items.specs.declared.names.Role.TheVariants as role
use Rattle.sy_forms_items.specs.Readings.{Reading, found_or, ◌>>=◌}
use Rattle.sy_forms_items.specs.Sorts.{read_sort}
use Rattle.sy_scope_names.specs.Lists.{read_named}
use Rattle.sy_scope_names.specs.Requests as requests
use Rattle.sy_scope_names.specs.Requests.{Request, Rulebook, Spelled}
use Rattle.sy_forms.proofs.Readings.{chained, unless_refused, any_read}
use Rattle.sy_scope_names.specs.Contexts.{Context, Definition, Sought, beginning, with_logic, new_name, new_sought, new_sort_name, has_room, question_at}
use Rattle.sy_scope_steps.specs.Files.{FileOutcome, command_read, then_next, after_command, file_from, file_read}
use Rattle.sy_scope_names.specs.Jobs.{title_of, titles_of}
use Rattle.sy_scope_names.specs.Changes.{PlacedRequest, logic_named, first_logic, set_logic, feature_set, set_feature, declare_variable, define_sort, with_definition, value_sort, with_sought, function_named, invariant_parts, with_invariant, constrain_invariant, with_question, check_synth, command_asked}
use Rattle.sy_scope_steps.specs.Steps.{read_in, define, read_grammar, synthesise, constrain, assume, perform_in, perform_first, perform, step}
use Rattle.sy_scope.specs.Titled.{AreNamed}
use Rattle.sy_reply.specs.Writable.{IsTitled}
use Rattle.sy_scope.proofs.TitlesLaws.{function_more, definition_more, titled_now}

-- whatever is read first
after_any : {A : Type 0} (read : Reading A) (next : A → Reading Context) → ((x : A) → IfOk (next x) AreNamed) → IfOk (read >>= next) AreNamed
after_any read next later = chained (λ x. ⊤) AreNamed read next (any_read read) (λ x is any. later x)

definition_named : (context : Context) (d : Definition) → AreNamed context → AreNamed (with_definition context d)
definition_named context d named = record {
  few = named.few;
  each = All-weaker (IsTitled (titles_of context)) (IsTitled (titles_of (with_definition context d))) (λ q is. definition_more (map title_of context.sought) context.definitions d q is) context.questions named.each;
}

function_named_too : (context : Context) (f : Sought) (values : List _) → AreNamed context → AreNamed (with_sought context f values)
function_named_too context f values named = record {
  few = named.few;
  each = All-weaker (IsTitled (titles_of context)) (IsTitled (titles_of (with_sought context f values))) (λ q is. function_more (map (λ (d : Definition). d.name) context.definitions) context.sought f q is) context.questions named.each;
}

fewer : (n : ℕ) → nat_lt n 16 ≡ true → n + 1 ≤ 16
fewer n less = grind arith

question_named : (context : Context) → nat_lt (length context.questions) 16 ≡ true → AreNamed context → AreNamed (with_question context)
question_named context less named =
    let sum = length-append context.questions (question_at context ∷ []) in
    let room = fewer (length context.questions) less in
    record {
      few = omega (arith, sum, room);
      each = All-push (IsTitled (titles_of context)) context.questions (question_at context) named.each (titled_now context);
    }

logic_set : (l : Logic) (context : Context) → AreNamed context → AreNamed (with_logic l context)
logic_set l context named = record { few = named.few; each = named.each }

set_named : (context : Context) (name : Spelled) → AreNamed context → IfOk (set_logic context name) AreNamed
set_named context name named =
    after_any (found_or name.place cause.Logic (first_logic context.logic (logic_named name.name))) _ (λ l. logic_set l context named)

feature_named : (context : Context) (feature : Spelled) (on : Bool) → AreNamed context → IfOk (set_feature context feature on) AreNamed
feature_named context feature on named = after_any (feature_set feature on) _ (λ x. named)

declare_named : (context : Context) (logic : Logic) (name : Spelled) (sort : Item) → AreNamed context → IfOk (declare_variable context logic name sort) AreNamed
declare_named context logic name sort named =
    after_any (new_name context logic name.place name.name) _ (λ new. after_any (read_sort logic context.sorts sort) _ (λ found. record { few = named.few; each = named.each }))

define_sort_named : (context : Context) (logic : Logic) (name : Spelled) (sort : Item) → AreNamed context → IfOk (define_sort context logic name sort) AreNamed
define_sort_named context logic name sort named =
    after_any (new_sort_name context logic name.place name.name) _ (λ new. after_any (read_sort logic context.sorts sort) _ (λ found. record { few = named.few; each = named.each }))

define_named : (context : Context) (logic : Logic) (name : Spelled) (arguments : Items) (sort body : Item) → AreNamed context → IfOk (define context logic name arguments sort body) AreNamed
define_named context logic name arguments sort body named =
    after_any (new_name context logic name.place name.name) _ (λ new.
    after_any (read_named context.sorts logic [] [] arguments) _ (λ list.
    after_any (read_sort logic context.sorts sort) _ (λ found.
    after_any (read_in context logic role.Body list found body) _ (λ phrase. definition_named context _ named))))

synthesise_named : (context : Context) (logic : Logic) (name : Spelled) (arguments : Items) (sort : Option Item) (rules : Option Rulebook) → AreNamed context → IfOk (synthesise context logic name arguments sort rules) AreNamed
synthesise_named context logic name arguments sort rules named =
    after_any (new_sought context logic name.place name.name) _ (λ new.
    after_any (read_named context.sorts logic [] [] arguments) _ (λ list.
    after_any (value_sort context logic sort) _ (λ found.
    after_any (read_grammar context logic list found rules) _ (λ written. function_named_too context _ written.values named))))

constrain_named : (context : Context) (logic : Logic) (term : Item) → AreNamed context → IfOk (constrain context logic term) AreNamed
constrain_named context logic term named = after_any (read_in context logic role.Constraint [] sorts.Bool term) _ (λ phrase. record { few = named.few; each = named.each })

assume_named : (context : Context) (logic : Logic) (term : Item) → AreNamed context → IfOk (assume context logic term) AreNamed
assume_named context logic term named = after_any (read_in context logic role.Assumption [] sorts.Bool term) _ (λ phrase. record { few = named.few; each = named.each })

invariant_named : (context : Context) (place : Place) (i p t q : Spelled) → AreNamed context → IfOk (constrain_invariant context place i p t q) AreNamed
invariant_named context place i p t q named =
    after_any (function_named context i) _ (λ f.
    after_any (function_named context p) _ (λ g.
    after_any (function_named context t) _ (λ h.
    after_any (function_named context q) _ (λ k.
    after_any (invariant_parts i p t q f g h k) _ (λ parts.
    unless_refused AreNamed (has_room context (2 * length f.takes)) place cause.TooMany (Ok (with_invariant context f.takes parts)) (λ room. record { few = named.few; each = named.each }))))))

check_named : (context : Context) (at : Place) → AreNamed context → IfOk (check_synth context at) AreNamed
check_named context at named = unless_refused AreNamed (nat_lt (length context.questions) 16) at cause.TooMany (Ok (with_question context)) (λ less. question_named context less named)

first_named : (context : Context) (at : Place) (request : Request) → AreNamed context → IfOk (perform_first context at request) AreNamed
unfolding perform_first
first_named context at (requests.ToSetLogic name) named = set_named context name named
first_named context at (requests.ToSetFeature feature on) named = feature_named context feature on named
first_named context at requests.ToNote named = named
first_named context at (requests.ToDeclareVariable name sort) named = tt
first_named context at (requests.ToDefineSort name sort) named = tt
first_named context at (requests.ToDefine name arguments sort body) named = tt
first_named context at (requests.ToSynthesise name arguments sort rules) named = tt
first_named context at (requests.ToSynthesiseInvariant name arguments rules) named = tt
first_named context at (requests.ToConstrain term) named = tt
first_named context at (requests.ToAssume term) named = tt
first_named context at (requests.ToConstrainInvariant i p t q) named = tt
first_named context at requests.ToCheck named = tt

performed_named : (context : Context) (logic : Logic) (place at : Place) (request : Request) → AreNamed context → IfOk (perform_in context logic place at request) AreNamed
unfolding perform_in
performed_named context logic place at (requests.ToSetLogic name) named = set_named context name named
performed_named context logic place at (requests.ToSetFeature feature on) named = feature_named context feature on named
performed_named context logic place at requests.ToNote named = named
performed_named context logic place at (requests.ToDeclareVariable name sort) named = declare_named context logic name sort named
performed_named context logic place at (requests.ToDefineSort name sort) named = define_sort_named context logic name sort named
performed_named context logic place at (requests.ToDefine name arguments sort body) named = define_named context logic name arguments sort body named
performed_named context logic place at (requests.ToSynthesise name arguments sort rules) named = synthesise_named context logic name arguments (Some sort) rules named
performed_named context logic place at (requests.ToSynthesiseInvariant name arguments rules) named = synthesise_named context logic name arguments None rules named
performed_named context logic place at (requests.ToConstrain term) named = constrain_named context logic term named
performed_named context logic place at (requests.ToAssume term) named = assume_named context logic term named
performed_named context logic place at (requests.ToConstrainInvariant i p t q) named = invariant_named context place i p t q named
performed_named context logic place at requests.ToCheck named = check_named context at named

perform_named : (context : Context) (logic : Option Logic) (x : PlacedRequest) → AreNamed context → IfOk (perform context logic x) AreNamed
perform_named context None x named = first_named context x.at x.request named
perform_named context (Some logic) x named = performed_named context logic x.place x.at x.request named

step_named : (context : Context) (item : Item) → AreNamed context → IfOk (step context item) AreNamed
unfolding step
step_named context item named = after_any (command_asked item) _ (λ x. perform_named context context.logic x named)

-- and so does a file
next_named : (command : ℕ) (read : Reading Context) (next : Context → FileOutcome) → IfOk read AreNamed → ((context : Context) → AreNamed context → IfOk (next context) AreNamed) → IfOk (then_next command read next) AreNamed
next_named command (Ok context) next holds later = later context holds
next_named command (Err fault) next holds later = tt

after_named : (command : ℕ) (context : Context) (read : Result (Option (Item × ℕ)) Refused) (next : ℕ → Context → FileOutcome) → AreNamed context → ((after : ℕ) (later : Context) → AreNamed later → IfOk (next after later) AreNamed) → IfOk (after_command command context read next) AreNamed
after_named command context (Ok None) next named later = named
after_named command context (Ok (Some x)) next named later = next_named command (step context x.0) (next x.1) (step_named context x.0 named) (later x.1)
after_named command context (Err refused) next named later = tt

file_named : (most command : ℕ) (file : List ℕ) (at : ℕ) (context : Context) → AreNamed context → IfOk (file_from most command file at context) AreNamed
unfolding file_from
file_named zero command file at context named = named
file_named (suc most) command file at context named =
    after_named command context (command_read file command at) _ named (λ after later later_named. file_named most (command + 1) file after later later_named)

pub files_named : (file : List ℕ) → IfOk (file_read file) AreNamed
files_named file = file_named (length file + 1) 1 file 0 beginning (record { few = omega arith; each = All-nil (IsTitled (titles_of beginning)) })
