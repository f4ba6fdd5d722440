-- Commands that declare keep contexts sound.
use Rattle.std.specs.Prelude.{ℕ, Bool, true, false, ◌||◌, nat_lt, List, [], ◌∷◌, ◌++◌, length, Some, Ok, is_some, ◌≡◌, refl, All, ⊤, IfOk}
use Rattle.std.proofs.lemmas.List.Elements.{All-push, All-weaker}
use Rattle.sy_text_items.specs.Items.{Item, Items}
use Rattle.sy_text_items.specs.declared.atom.Place.{Place}
use Rattle.sy_scope_causes.specs.declared.cause.Cause.TheVariants as cause
use Rattle.sy_terms.specs.Fitting.{Signature}
use Rattle.sy_terms.specs.Values.{Val}
use Rattle.sy_terms.specs.declared.sort.Logic.{Logic}
use Rattle.sy_terms.specs.declared.sort.Sort.{Sort}
use Rattle.sy_terms.specs.declared.sort.Sort.TheVariants as sorts
use Rattle.sy_terms.specs.declared.term.Fun.TheVariants as funs
use Rattle.sy_grammar_base.specs.Formed.{is_known}
use Rattle.sy_terms.specs.Logics.{number_sorts, operators_of}
use Rattle.sy_forms_items.specs.declared.names.Entity.{Entity}
use Rattle.sy_forms_items.specs.declared.names.Entity.TheVariants as entity
use Rattle.sy_forms_items.specs.declared.names.Role.TheVariants as role
use Rattle.sy_forms_items.specs.Environments.{entry_under}
use Rattle.sy_forms_items.specs.Operators.{is_reserved}
use Rattle.sy_forms_items.specs.Phrases.{Phrase}
use Rattle.sy_forms_items.specs.Sorts.{read_sort}
use Rattle.sy_scope_names.specs.Requests.{Spelled}
use Rattle.sy_scope_names.specs.Lists.{sorts_of_names, read_named}
use Rattle.sy_forms.specs.Fitting.{phrase_sort}
use Rattle.sy_grammar_base.specs.Fits.{GoalFits}
use Rattle.sy_forms.specs.Right.{Extends}
use Rattle.sy_forms.proofs.Readings.{chained, unless_refused, where_not_refused, any_read}
use Rattle.sy_forms.proofs.Sorts.{Known, sort_known}
use Rattle.sy_forms.proofs.Terms.{whole_fits}
use Rattle.sy_scope_names.specs.Contexts.{Context, Definition, Sought, new_name, new_sought, new_sort_name, has_room, goal_sought}
use Rattle.sy_scope_names.specs.Changes.{with_variable, declare_variable, define_sort, with_definition, with_sought}
use Rattle.sy_scope_steps.specs.Steps.{read_in, define, environment}
use Rattle.sy_scope.specs.Sound.{defined_in, signatures_wanted, setting_with, IsDeclared, ConditionFits, ContextIsSound}
use Rattle.sy_scope.proofs.Extending.{extends_itself, extends_last, last_at, extends_defined, extends_wanted, defined_at, wanted_at, declared_wider, condition_wider, goal_wider, phrase_wider, fit_after-last, list_all-append}
use Rattle.sy_scope.proofs.Rightly.{body_right}

-- a new name isn't reserved
abbrev pub IsFree : Logic → List ℕ → Type 0
IsFree logic name = is_reserved logic name ≡ false

either_false : (a b : Bool) → (a || b) ≡ false → a ≡ false
either_false false b e = refl
either_false true b e = absurd cc

new_name_free : (context : Context) (logic : Logic) (at : Place) (name : List ℕ) → IfOk (new_name context logic at name) (IsFree logic)
new_name_free context logic at name =
    where_not_refused (IsFree logic) (is_reserved logic name || is_some (entry_under name context.entities)) at cause.NameTaken _ (λ e.
    unless_refused (IsFree logic) (has_room context 1) at cause.TooMany (Ok name) (λ f. either_false _ _ e))

pub new_sought_free : (context : Context) (logic : Logic) (at : Place) (name : List ℕ) → IfOk (new_sought context logic at name) (IsFree logic)
new_sought_free context logic at name =
    where_not_refused (IsFree logic) (is_reserved logic name || is_some (entry_under name context.entities)) at cause.NameTaken _ (λ e.
    unless_refused (IsFree logic) (has_room context 1) at cause.TooMany _ (λ f.
    unless_refused (IsFree logic) (nat_lt (length context.sought) 4) at cause.TooMany (Ok name) (λ g. either_false _ _ e)))

-- a new entity under a new name
abbrev NewName : Logic → List ℕ × Entity → Type 0
NewName logic x = is_reserved logic x.0 ≡ false

pub declared_all : (defined wanted : List Signature) (variables : List Sort) (later_defined later_wanted : List Signature) (later_variables : List Sort) → Extends defined later_defined → Extends wanted later_wanted → Extends variables later_variables
    → (entities : List (List ℕ × Entity)) → All (λ (x : List ℕ × Entity). IsDeclared defined wanted variables x.1) entities → All (λ (x : List ℕ × Entity). IsDeclared later_defined later_wanted later_variables x.1) entities
declared_all defined wanted variables ld lw lv d w v entities all =
    All-weaker (λ (x : List ℕ × Entity). IsDeclared defined wanted variables x.1) (λ (x : List ℕ × Entity). IsDeclared ld lw lv x.1) (λ x e. declared_wider defined wanted variables ld lw lv d w v x.1 e) entities all

-- a variable more
variable_sound : (logic : Logic) (context : Context) (name : List ℕ) (sort : Sort) → ContextIsSound logic context → IsFree logic name → Known (number_sorts logic) sort → ContextIsSound logic (with_variable context name sort)
variable_sound logic context name sort sound free known =
    let owned = operators_of logic in
    let defined = defined_in context.definitions in
    let wanted = signatures_wanted context.sought in
    let variables = context.variables ++ sort ∷ [] in
    let d = extends_itself defined in
    let w = extends_itself wanted in
    let v = extends_last context.variables (sort ∷ []) in
    let x : List ℕ × Entity = (name, entity.Variable (length context.variables) sort) in
    record {
      set = sound.set;
      abbreviations = sound.abbreviations;
      names = All-push (λ (x : List ℕ × Entity). is_reserved logic x.0 ≡ false) context.entities x sound.names free;
      entities = All-push (λ (x : List ℕ × Entity). IsDeclared defined wanted variables x.1) context.entities x
          (declared_all defined wanted context.variables defined wanted variables d w v context.entities sound.entities) (last_at context.variables sort);
      variables = list_all-append (is_known (number_sorts logic)) context.variables (sort ∷ []) sound.variables (rw known refl);
      definitions = sound.definitions;
      sought = sound.sought;
      assumptions = All-weaker (λ (p : Phrase). phrase_sort (setting_with owned defined [] context.variables) [] p ≡ Some sorts.Bool) _
          (λ p e. phrase_wider owned defined [] context.variables defined [] variables d (extends_itself []) v p sorts.Bool e) context.assumptions sound.assumptions;
      constraints = All-weaker (ConditionFits owned defined wanted context.variables) (ConditionFits owned defined wanted variables)
          (λ c fit. condition_wider owned defined wanted context.variables defined wanted variables d w v c fit) context.constraints sound.constraints;
      questions = sound.questions;
    }

pub declare_sound : (logic : Logic) (context : Context) (name : Spelled) (sort : Item) → ContextIsSound logic context → IfOk (declare_variable context logic name sort) (ContextIsSound logic)
declare_sound logic context name sort sound =
    chained (IsFree logic) (ContextIsSound logic) (new_name context logic name.place name.name) _ (new_name_free context logic name.place name.name) (λ new is free.
    chained (Known (number_sorts logic)) (ContextIsSound logic) (read_sort logic context.sorts sort) _ (sort_known (operators_of logic) (number_sorts logic) logic context.sorts sort (record { operators = λ operator. refl; sorts = λ s. refl }) sound.abbreviations) (λ found found_is known.
    variable_sound logic context new found sound free known))

-- an abbreviation more
abbreviation_sound : (logic : Logic) (context : Context) (name : List ℕ) (sort : Sort) → ContextIsSound logic context → Known (number_sorts logic) sort → ContextIsSound logic (record context { sorts = context.sorts ++ (name, sort) ∷ [] })
abbreviation_sound logic context name sort sound known =
    let x : List ℕ × Sort = (name, sort) in
    record {
      set = sound.set;
      abbreviations = All-push (λ (x : List ℕ × Sort). is_known (number_sorts logic) x.1 ≡ true) context.sorts x sound.abbreviations known;
      names = sound.names;
      entities = sound.entities;
      variables = sound.variables;
      definitions = sound.definitions;
      sought = sound.sought;
      assumptions = sound.assumptions;
      constraints = sound.constraints;
      questions = sound.questions;
    }

pub define_sort_sound : (logic : Logic) (context : Context) (name : Spelled) (sort : Item) → ContextIsSound logic context → IfOk (define_sort context logic name sort) (ContextIsSound logic)
define_sort_sound logic context name sort sound =
    chained (λ x. ⊤) (ContextIsSound logic) (new_sort_name context logic name.place name.name) _ (any_read (new_sort_name context logic name.place name.name)) (λ new is any.
    chained (Known (number_sorts logic)) (ContextIsSound logic) (read_sort logic context.sorts sort) _ (sort_known (operators_of logic) (number_sorts logic) logic context.sorts sort (record { operators = λ operator. refl; sorts = λ s. refl }) sound.abbreviations) (λ found found_is known.
    abbreviation_sound logic context new found sound known))

-- a definition more
definition_sound : (logic : Logic) (context : Context) (d : Definition) → ContextIsSound logic context → IsFree logic d.name → phrase_sort (setting_with (operators_of logic) (defined_in context.definitions) [] (sorts_of_names d.arguments)) [] d.body ≡ Some d.sort
    → ContextIsSound logic (with_definition context d)
definition_sound logic context d sound free fit =
    let owned = operators_of logic in
    let numeric = number_sorts logic in
    let defined = defined_in context.definitions in
    let wanted = signatures_wanted context.sought in
    let later = defined_in (context.definitions ++ d ∷ []) in
    let more = extends_defined context.definitions d in
    let w = extends_itself wanted in
    let v = extends_itself context.variables in
    let x : List ℕ × Entity = (d.name, entity.Function (funs.Defined (length context.definitions)) (sorts_of_names d.arguments) d.sort) in
    record {
      set = sound.set;
      abbreviations = sound.abbreviations;
      names = All-push (λ (x : List ℕ × Entity). is_reserved logic x.0 ≡ false) context.entities x sound.names free;
      entities = All-push (λ (x : List ℕ × Entity). IsDeclared later wanted context.variables x.1) context.entities x
          (declared_all defined wanted context.variables later wanted context.variables more w v context.entities sound.entities) (defined_at context.definitions d);
      variables = sound.variables;
      definitions = fit_after-last owned [] context.definitions d sound.definitions fit;
      sought = All-weaker (λ (f : Sought). GoalFits owned numeric defined (goal_sought f)) (λ (f : Sought). GoalFits owned numeric later (goal_sought f)) (λ f fits. goal_wider owned numeric defined later more (goal_sought f) fits) context.sought sound.sought;
      assumptions = All-weaker (λ (p : Phrase). phrase_sort (setting_with owned defined [] context.variables) [] p ≡ Some sorts.Bool) _
          (λ p e. phrase_wider owned defined [] context.variables later [] context.variables more (extends_itself []) v p sorts.Bool e) context.assumptions sound.assumptions;
      constraints = All-weaker (ConditionFits owned defined wanted context.variables) (ConditionFits owned later wanted context.variables)
          (λ c fits. condition_wider owned defined wanted context.variables later wanted context.variables more w v c fits) context.constraints sound.constraints;
      questions = sound.questions;
    }

pub define_sound : (logic : Logic) (context : Context) (name : Spelled) (arguments : Items) (sort body : Item) → ContextIsSound logic context → IfOk (define context logic name arguments sort body) (ContextIsSound logic)
define_sound logic context name arguments sort body sound =
    chained (IsFree logic) (ContextIsSound logic) (new_name context logic name.place name.name) _ (new_name_free context logic name.place name.name) (λ new is free.
    chained (λ x. ⊤) (ContextIsSound logic) (read_named context.sorts logic [] [] arguments) _ (any_read (read_named context.sorts logic [] [] arguments)) (λ named named_is any.
    chained (λ x. ⊤) (ContextIsSound logic) (read_sort logic context.sorts sort) _ (any_read (read_sort logic context.sorts sort)) (λ found found_is known.
    chained (λ p. phrase_sort (setting_with (operators_of logic) (defined_in context.definitions) [] (sorts_of_names named)) [] p ≡ Some found) (ContextIsSound logic) (read_in context logic role.Body named found body) _
    (whole_fits (number_sorts logic) (setting_with (operators_of logic) (defined_in context.definitions) [] (sorts_of_names named)) (environment context logic role.Body named) (body_right logic context sound named) context.measures found body) (λ p p_is fit.
    definition_sound logic context (record { name = new; arguments = named; sort = found; body = p }) sound free fit))))

-- a function to be found more
pub sought_sound : (logic : Logic) (context : Context) (f : Sought) (values : List Val) → ContextIsSound logic context → IsFree logic f.name → GoalFits (operators_of logic) (number_sorts logic) (defined_in context.definitions) (goal_sought f)
    → ContextIsSound logic (with_sought context f values)
sought_sound logic context f values sound free fit =
    let owned = operators_of logic in
    let numeric = number_sorts logic in
    let defined = defined_in context.definitions in
    let wanted = signatures_wanted context.sought in
    let later = signatures_wanted (context.sought ++ f ∷ []) in
    let more = extends_wanted context.sought f in
    let d = extends_itself defined in
    let v = extends_itself context.variables in
    let x : List ℕ × Entity = (f.name, entity.Function (funs.Wanted (length context.sought)) (sorts_of_names f.arguments) f.sort) in
    record {
      set = sound.set;
      abbreviations = sound.abbreviations;
      names = All-push (λ (x : List ℕ × Entity). is_reserved logic x.0 ≡ false) context.entities x sound.names free;
      entities = All-push (λ (x : List ℕ × Entity). IsDeclared defined later context.variables x.1) context.entities x
          (declared_all defined wanted context.variables defined later context.variables d more v context.entities sound.entities) (wanted_at context.sought f);
      variables = sound.variables;
      definitions = sound.definitions;
      sought = All-push (λ (g : Sought). GoalFits owned numeric defined (goal_sought g)) context.sought f sound.sought fit;
      assumptions = sound.assumptions;
      constraints = All-weaker (ConditionFits owned defined wanted context.variables) (ConditionFits owned defined later context.variables)
          (λ c fits. condition_wider owned defined wanted context.variables defined later context.variables d more v c fits) context.constraints sound.constraints;
      questions = sound.questions;
    }
