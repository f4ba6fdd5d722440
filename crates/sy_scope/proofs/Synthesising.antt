-- Functions to be found keep contexts sound.
use Rattle.std.specs.Prelude.{ℕ, Bool, true, false, List, [], ◌∷◌, slice_get, Option, Some, None, ◌≡◌, refl, All, ⊤, bytes_eq, if◌then◌else◌, IfOk}
use Rattle.std.specs.Option.{option_map}
use Rattle.std.proofs.Common.{sym, subst, arith}
use Rattle.std.proofs.lemmas.List.Elements.{All-nil, All-head, All-tail, All-weaker}
use Rattle.std.proofs.lemmas.Slice.Eq.{bytes_eq-Decides}
use Rattle.sy_text_items.specs.Items.{Item, Items}
use Rattle.sy_terms.specs.Fitting.{Signature}
use Rattle.sy_terms.specs.declared.op.Op.{Op}
use Rattle.sy_terms.specs.declared.sort.Logic.{Logic}
use Rattle.sy_terms.specs.declared.sort.Logic.TheVariants.{Lia, Bv}
use Rattle.sy_terms.specs.declared.sort.Sort.{Sort}
use Rattle.sy_terms.specs.declared.sort.Sort.TheVariants as sorts
use Rattle.sy_terms.specs.declared.term.Fun.TheVariants.{Defined, Wanted}
use Rattle.sy_grammar_base.specs.Formed.{is_known}
use Rattle.sy_grammar_base.specs.Trees.{Nonterminal}
use Rattle.sy_terms.specs.Logics.{IsTheoryOf, number_sorts, operators_of}
use Rattle.sy_grammar.specs.Defaults.{nonterminals}
use Rattle.sy_grammar.proofs.FittingLaws.{default_formed}
use Rattle.sy_forms_items.specs.declared.names.Entity.{Entity}
use Rattle.sy_forms_items.specs.declared.names.Entity.TheVariants as entity
use Rattle.sy_forms_items.specs.declared.names.Named.{Named}
use Rattle.sy_forms_items.specs.declared.names.Role.TheVariants as role
use Rattle.sy_forms_items.specs.Environments as env
use Rattle.sy_forms_items.specs.Environments.{Sense, entry_under, or_else, place_among, sense_as, declared_in}
use Rattle.sy_forms_items.specs.Operators.{is_reserved}
use Rattle.sy_scope_names.specs.Requests.{Spelled, Rulebook}
use Rattle.sy_scope_names.specs.Lists.{sorts_of_names, read_named}
use Rattle.sy_scope_steps.specs.Grammars.{Written, read_rulebook}
use Rattle.sy_scope_names.proofs.Named.{IsNamed, named_read}
use Rattle.sy_grammar_base.specs.Fits.{with_functions, GoalFits}
use Rattle.sy_forms.specs.Right.{SenseIsThere}
use Rattle.sy_forms.proofs.NamesLaws.{place_among_at}
use Rattle.sy_forms.proofs.Readings.{chained, any_read, at_read, where_read}
use Rattle.sy_forms.proofs.Sorts.{Known, sort_known, entry_has}
use Rattle.sy_scope.specs.Rightly.{argument_setting, ReadsRightly}
use Rattle.sy_scope.proofs.Formed.{sorts_pass, grammar_fits}
use Rattle.sy_scope.proofs.Placing.{none_among}
use Rattle.sy_scope_names.specs.Contexts.{Context, new_sought}
use Rattle.sy_scope_names.specs.Changes.{value_sort}
use Rattle.sy_scope_steps.specs.Steps.{read_grammar, synthesise}
use Rattle.sy_scope.specs.Sound.{defined_in, signatures_wanted, IsDeclared, ContextIsSound}
use Rattle.sy_scope.proofs.Declaring.{IsFree, new_sought_free, sought_sound}

-- what a declared name stands for in a grammar
in_grammar : (owned : Op → Bool) (defined wanted : List Signature) (variables : List Sort) (arguments : List Named) (found : Option Entity) (sense : Sense) → ((it : Entity) → found ≡ Some it → IsDeclared defined wanted variables it)
    → declared_in role.Grammar found ≡ Some sense → SenseIsThere (argument_setting (with_functions owned defined []) arguments) [] sense
in_grammar owned defined wanted variables arguments None sense declared e = absurd cc
in_grammar owned defined wanted variables arguments (Some (entity.Variable position sort)) sense declared e = absurd cc
in_grammar owned defined wanted variables arguments (Some (entity.Function (Defined f) takes gives)) sense declared e = let same : env.Function (Defined f) takes gives ≡ sense = cc in subst (SenseIsThere (argument_setting (with_functions owned defined []) arguments) []) same (declared (entity.Function (Defined f) takes gives) refl)
in_grammar owned defined wanted variables arguments (Some (entity.Function (Wanted f) takes gives)) sense declared e = let same : env.Withheld ≡ sense = cc in subst (SenseIsThere (argument_setting (with_functions owned defined []) arguments) []) same tt

argument_or : (owned : Op → Bool) (defined : List Signature) (arguments : List Named) (place : Option (ℕ × Sort)) (outer : Option Sense) (sense : Sense) → ((x : ℕ × Sort) → place ≡ Some x → slice_get (sorts_of_names arguments) x.0 ≡ Some x.1)
    → (outer ≡ Some sense → SenseIsThere (argument_setting (with_functions owned defined []) arguments) [] sense) → or_else (sense_as env.Argument place) outer ≡ Some sense → SenseIsThere (argument_setting (with_functions owned defined []) arguments) [] sense
argument_or owned defined arguments None outer sense inside outside e = outside e
argument_or owned defined arguments (Some x) outer sense inside outside e = let same : env.Argument x.0 x.1 ≡ sense = cc in subst (SenseIsThere (argument_setting (with_functions owned defined []) arguments) []) same (inside x refl)

-- a reserved word stands for nothing that is declared
none_by : (logic : Logic) (word name : List ℕ) (b : Bool) (it : Entity) (other : Option Entity) → bytes_eq word name ≡ b → other ≡ None → is_reserved logic name ≡ false → is_reserved logic word ≡ true → (if b then Some it else other) ≡ None
none_by logic word name true it other is none free e =
    let same : word ≡ name = (bytes_eq-Decides word name).0 is in
    let not_free : is_reserved logic word ≡ false = subst (λ w. is_reserved logic w ≡ false) (sym same) free in
    absurd cc
none_by logic word name false it other is none free e = none

none_declared : (logic : Logic) (word : List ℕ) (entities : List (List ℕ × Entity)) → All (λ (x : List ℕ × Entity). is_reserved logic x.0 ≡ false) entities → is_reserved logic word ≡ true → entry_under word entities ≡ None
none_declared logic word [] free e = refl
none_declared logic word (x ∷ entities) free e =
    none_by logic word x.0 (bytes_eq word x.0) x.1 (entry_under word entities) refl (none_declared logic word entities (All-tail (λ (x : List ℕ × Entity). is_reserved logic x.0 ≡ false) x entities free) e) (All-head (λ (x : List ℕ × Entity). is_reserved logic x.0 ≡ false) x entities free) e

nothing_or : (place : Option (ℕ × Sort)) (found : Option Entity) → place ≡ None → found ≡ None → or_else (sense_as env.Argument place) (declared_in role.Grammar found) ≡ None
nothing_or place found e f = rw (e, f) refl

own : (logic : Logic) → IsTheoryOf logic (operators_of logic) (number_sorts logic)
own logic = record { operators = λ operator. refl; sorts = λ s. refl }

-- a grammar is read rightly
grammar_right : (logic : Logic) (context : Context) → ContextIsSound logic context → (arguments : List Named) → All (IsNamed context.sorts logic) arguments → All (λ (x : Named). is_known (number_sorts logic) x.sort ≡ true) arguments
    → ReadsRightly (number_sorts logic) (with_functions (operators_of logic) (defined_in context.definitions) []) context.sorts context.entities logic arguments
grammar_right logic context sound arguments named known = record {
  right = record {
    theory = own logic;
    sorts = sound.abbreviations;
    names = λ name sense e. argument_or (operators_of logic) (defined_in context.definitions) arguments (place_among name arguments) (declared_in role.Grammar (entry_under name context.entities)) sense (place_among_at name arguments)
        (λ f. in_grammar (operators_of logic) (defined_in context.definitions) (signatures_wanted context.sought) context.variables arguments (entry_under name context.entities) sense
        (λ it g. entry_has (IsDeclared (defined_in context.definitions) (signatures_wanted context.sought) context.variables) name context.entities it sound.entities g) f) e;
    constants = refl;
    lets = refl;
  };
  reserved = λ word e. nothing_or (place_among word arguments) (entry_under word context.entities)
      (none_among logic word arguments 0 (All-weaker (IsNamed context.sorts logic) (λ (x : Named). is_reserved logic x.name ≡ false) (λ x is. is.free) arguments named) e) (none_declared logic word context.entities sound.names e);
  sorted = known;
  wanted = refl;
}

-- the start symbol of a default grammar
default_start : (logic : Logic) (arguments : List Sort) (sort : Sort) → is_known (number_sorts logic) sort ≡ true → option_map (λ (n : Nonterminal). n.sort) (slice_get (nonterminals logic arguments sort) 0) ≡ Some sort
default_start Lia arguments sorts.Bool known = refl
default_start Lia arguments sorts.Int known = refl
default_start Lia arguments (sorts.Bits w) known = absurd cc
default_start Bv arguments sorts.Bool known = refl
default_start Bv arguments sorts.Int known = absurd cc
default_start Bv arguments (sorts.Bits w) known = refl

-- a grammar that is written, or that of a function without one
abbrev WrittenFits : Logic → Context → List Named → Sort → Written → Type 0
WrittenFits logic context arguments sort written =
    GoalFits (operators_of logic) (number_sorts logic) (defined_in context.definitions) (record { signature = record { takes = sorts_of_names arguments; gives = sort }; grammar = written.grammar })

written_fits : (logic : Logic) (context : Context) → ContextIsSound logic context → (arguments : List Named) (sort : Sort) (rules : Option Rulebook) → All (IsNamed context.sorts logic) arguments → All (λ (x : Named). is_known (number_sorts logic) x.sort ≡ true) arguments
    → is_known (number_sorts logic) sort ≡ true → IfOk (read_grammar context logic arguments sort rules) (WrittenFits logic context arguments sort)
written_fits logic context sound arguments sort None named known sort_is = record {
  formed = default_formed (defined_in context.definitions) logic (operators_of logic) (number_sorts logic) (own logic) (sorts_of_names arguments) sort (sorts_pass (is_known (number_sorts logic)) arguments known) sort_is;
  arguments = refl;
  start = default_start logic (sorts_of_names arguments) sort sort_is;
}
written_fits logic context sound arguments sort (Some book) named known sort_is =
    where_read (read_rulebook context.sorts context.entities logic arguments sort book) (λ written e.
    grammar_fits (operators_of logic) (number_sorts logic) (defined_in context.definitions) context.sorts context.entities logic arguments sort book written (grammar_right logic context sound arguments named known) e)

value_known : (logic : Logic) (context : Context) → ContextIsSound logic context → (sort : Option Item) → IfOk (value_sort context logic sort) (Known (number_sorts logic))
value_known logic context sound None = refl
value_known logic context sound (Some sort) = sort_known (operators_of logic) (number_sorts logic) logic context.sorts sort (own logic) sound.abbreviations

pub synthesise_sound : (logic : Logic) (context : Context) (name : Spelled) (arguments : Items) (sort : Option Item) (rules : Option Rulebook) → ContextIsSound logic context → IfOk (synthesise context logic name arguments sort rules) (ContextIsSound logic)
synthesise_sound logic context name arguments sort rules sound =
    chained (IsFree logic) (ContextIsSound logic) (new_sought context logic name.place name.name) _ (new_sought_free context logic name.place name.name) (λ new is free.
    chained (λ x. ⊤) (ContextIsSound logic) (read_named context.sorts logic [] [] arguments) _ (any_read (read_named context.sorts logic [] [] arguments)) (λ named named_is any.
    let are = (named_read context.sorts logic [] [] arguments named (All-nil (IsNamed context.sorts logic)) (omega arith) named_is).all in
    let known = All-weaker (IsNamed context.sorts logic) (λ (x : Named). is_known (number_sorts logic) x.sort ≡ true)
    (λ x it. at_read (Known (number_sorts logic)) _ x.sort (sort_known (operators_of logic) (number_sorts logic) logic context.sorts it.item (own logic) sound.abbreviations) it.sort) named are in
    chained (Known (number_sorts logic)) (ContextIsSound logic) (value_sort context logic sort) _ (value_known logic context sound sort) (λ found found_is found_known.
    chained (WrittenFits logic context named found) (ContextIsSound logic) (read_grammar context logic named found rules) _ (written_fits logic context sound named found rules are known found_known) (λ written written_is fit.
    sought_sound logic context (record { name = new; arguments = named; sort = found; grammar = written.grammar }) written.values sound free fit))))
