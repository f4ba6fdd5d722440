-- Constraints, assumptions and questions keep contexts sound.
use Rattle.std.specs.Prelude.{ℕ, zero, suc, ◌+◌, ◌*◌, Bool, true, ◌&&◌, nat_lt, List, [], ◌∷◌, ◌++◌, map, length, slice_get, Option, Some, None, Ok, ◌≡◌, refl, All, IfOk}
use Rattle.std.specs.List.{list_all}
use Rattle.std.proofs.Common.{ap, sym, subst, ◌∙◌}
use Rattle.std.proofs.lemmas.List.Elements.{All-push, All-weaker, All-append, All-nil, All-cons, All-head, All-tail}
use Rattle.sy_text_items.specs.Items.{Item}
use Rattle.sy_text_items.specs.declared.atom.Place.{Place}
use Rattle.sy_scope_causes.specs.declared.cause.Cause.TheVariants as cause
use Rattle.sy_terms.specs.Fitting.{Scope, Signature, signature_of, same_sorts}
use Rattle.sy_terms.specs.Sorts.{same_sort}
use Rattle.sy_terms.specs.declared.op.Op.{Op}
use Rattle.sy_terms.specs.declared.op.Op.TheVariants as ops
use Rattle.sy_terms.specs.declared.sort.Logic.{Logic}
use Rattle.sy_terms.specs.declared.sort.Logic.TheVariants.{Lia, Bv}
use Rattle.sy_terms.specs.declared.sort.Sort.{Sort}
use Rattle.sy_terms.specs.declared.sort.Sort.TheVariants as sorts
use Rattle.sy_terms.specs.declared.term.Fun.{Fun}
use Rattle.sy_terms.specs.declared.term.Fun.TheVariants.{Defined, Wanted}
use Rattle.sy_terms_operators.proofs.Equations.{both_true, same_sort_is, same_sorts_is}
use Rattle.sy_grammar_base.specs.Formed.{is_known, is_formed}
use Rattle.sy_terms.specs.Logics.{number_sorts, operators_of}
use Rattle.sy_inv.specs.Conditions.{starts, keeps, ends}
use Rattle.sy_forms_items.specs.declared.names.Entity.{Entity}
use Rattle.sy_forms_items.specs.declared.names.Entity.TheVariants as entity
use Rattle.sy_forms_items.specs.declared.names.Role.TheVariants as role
use Rattle.sy_forms_items.specs.Environments.{entry_under}
use Rattle.sy_forms_items.specs.Phrases.{Phrase}
use Rattle.sy_scope_names.specs.Requests.{Spelled}
use Rattle.sy_forms.specs.Fitting.{phrase_sort}
use Rattle.sy_grammar_base.specs.Fits.{with_functions, GoalFits, QuestionFits}
use Rattle.sy_forms.specs.Right.{Extends}
use Rattle.sy_forms.proofs.Exprs.{back_at}
use Rattle.sy_forms.proofs.Readings.{chained, unless_refused, where_found}
use Rattle.sy_forms.proofs.Sorts.{entry_has}
use Rattle.sy_forms.proofs.Terms.{whole_fits}
use Rattle.sy_forms.proofs.Whole.{term_fits}
use Rattle.sy_scope_names.specs.Contexts as contexts
use Rattle.sy_scope_names.specs.Contexts.{Context, Sought, Condition, Expanded, question_at, goal_sought, has_room}
use Rattle.sy_scope_names.specs.Changes.{Called, called_function, function_named, invariant_number, called_definition, as_invariant, as_condition, Parts, with_invariant, invariant_parts, constrain_invariant, with_question, check_synth}
use Rattle.sy_scope_steps.specs.Steps.{environment, read_in, constrain, assume}
use Rattle.sy_scope.specs.Sound.{defined_in, signatures_wanted, signature_of_sought, setting_with, IsDeclared, ConditionFits, ContextIsSound}
use Rattle.sy_scope.proofs.Conditions.{AreFrom, IsInvariant, starts_fits, keeps_fits, ends_fits}
use Rattle.sy_scope.proofs.Declaring.{declared_all}
use Rattle.sy_scope.proofs.Extending.{extends_itself, extends_last, condition_wider, phrase_wider, list_all-append}
use Rattle.sy_scope.proofs.Questions.{question_fits}
use Rattle.sy_scope.proofs.Rightly.{constraint_right, assumption_right}

-- a written constraint is a truth value, also where more is declared
written_condition : (owned : Op → Bool) (defined wanted : List Signature) (variables : List Sort) (it : Phrase) → phrase_sort (setting_with owned defined wanted variables) [] it ≡ Some sorts.Bool → ConditionFits owned defined wanted variables (contexts.Written it)
written_condition owned defined wanted variables it e ld lw lv d w v =
    term_fits (setting_with owned ld lw lv) it sorts.Bool refl (phrase_wider owned defined wanted variables ld lw lv d w v it sorts.Bool e)

constraint_more : (logic : Logic) (context : Context) (conditions : List Condition) (pool : _) → ContextIsSound logic context → All (ConditionFits (operators_of logic) (defined_in context.definitions) (signatures_wanted context.sought) context.variables) conditions
    → ContextIsSound logic (record context { constraints = context.constraints ++ conditions; pool = pool })
constraint_more logic context conditions pool sound fit = record {
  set = sound.set;
  abbreviations = sound.abbreviations;
  names = sound.names;
  entities = sound.entities;
  variables = sound.variables;
  definitions = sound.definitions;
  sought = sound.sought;
  assumptions = sound.assumptions;
  constraints = All-append (ConditionFits (operators_of logic) (defined_in context.definitions) (signatures_wanted context.sought) context.variables) context.constraints conditions sound.constraints fit;
  questions = sound.questions;
}

pub constrain_sound : (logic : Logic) (context : Context) (term : Item) → ContextIsSound logic context → IfOk (constrain context logic term) (ContextIsSound logic)
constrain_sound logic context term sound =
    let owned = operators_of logic in
    let defined = defined_in context.definitions in
    let wanted = signatures_wanted context.sought in
    chained (λ p. phrase_sort (setting_with owned defined wanted context.variables) [] p ≡ Some sorts.Bool) (ContextIsSound logic) (read_in context logic role.Constraint [] sorts.Bool term) _
    (whole_fits (number_sorts logic) (setting_with owned defined wanted context.variables) (environment context logic role.Constraint []) (constraint_right logic context sound) context.measures sorts.Bool term) (λ p is fit.
    constraint_more logic context (contexts.Written p ∷ []) _ sound
    (All-cons (ConditionFits owned defined wanted context.variables) (contexts.Written p) [] (written_condition owned defined wanted context.variables p fit) (All-nil (ConditionFits owned defined wanted context.variables))))

assumption_more : (logic : Logic) (context : Context) (p : Phrase) (pool : _) → ContextIsSound logic context → phrase_sort (setting_with (operators_of logic) (defined_in context.definitions) [] context.variables) [] p ≡ Some sorts.Bool
    → ContextIsSound logic (record context { assumptions = context.assumptions ++ p ∷ []; pool = pool })
assumption_more logic context p pool sound fit = record {
  set = sound.set;
  abbreviations = sound.abbreviations;
  names = sound.names;
  entities = sound.entities;
  variables = sound.variables;
  definitions = sound.definitions;
  sought = sound.sought;
  assumptions = All-push (λ (p : Phrase). phrase_sort (setting_with (operators_of logic) (defined_in context.definitions) [] context.variables) [] p ≡ Some sorts.Bool) context.assumptions p sound.assumptions fit;
  constraints = sound.constraints;
  questions = sound.questions;
}

pub assume_sound : (logic : Logic) (context : Context) (term : Item) → ContextIsSound logic context → IfOk (assume context logic term) (ContextIsSound logic)
assume_sound logic context term sound =
    let owned = operators_of logic in
    let defined = defined_in context.definitions in
    chained (λ p. phrase_sort (setting_with owned defined [] context.variables) [] p ≡ Some sorts.Bool) (ContextIsSound logic) (read_in context logic role.Assumption [] sorts.Bool term) _
    (whole_fits (number_sorts logic) (setting_with owned defined [] context.variables) (environment context logic role.Assumption []) (assumption_right logic context sound) context.measures sorts.Bool term) (λ p is fit.
    assumption_more logic context p _ sound fit)

-- Invariants

-- a declared function
abbrev IsFunction : List Signature → List Signature → Called → Type 0
IsFunction defined wanted f = signature_of (with_functions (λ operator. true) defined wanted) f.function ≡ Some (record { takes = f.takes; gives = f.gives })

function_by : (defined wanted : List Signature) (variables : List Sort) (found : Option Entity) (f : Called) → ((it : Entity) → found ≡ Some it → IsDeclared defined wanted variables it) → called_function found ≡ Some f → IsFunction defined wanted f
function_by defined wanted variables None f declared e = absurd cc
function_by defined wanted variables (Some (entity.Variable position sort)) f declared e = absurd cc
function_by defined wanted variables (Some (entity.Function function takes gives)) f declared e =
    let it : Called = record { function = function; takes = takes; gives = gives } in
    let same : it ≡ f = cc in
    subst (IsFunction defined wanted) same (declared (entity.Function function takes gives) refl)

function_declared : (logic : Logic) (context : Context) → ContextIsSound logic context → (name : Spelled) → IfOk (function_named context name) (IsFunction (defined_in context.definitions) (signatures_wanted context.sought))
function_declared logic context sound name =
    where_found (IsFunction (defined_in context.definitions) (signatures_wanted context.sought)) name.place cause.UnknownName (called_function (entry_under name.name context.entities)) (λ f e.
    function_by (defined_in context.definitions) (signatures_wanted context.sought) context.variables (entry_under name.name context.entities) f
    (λ it g. entry_has (IsDeclared (defined_in context.definitions) (signatures_wanted context.sought) context.variables) name.name context.entities it sound.entities g) e)

-- its number, where it is to be found, and where it is a definition
wanted_number : (defined wanted : List Signature) (function : Fun) (takes : List Sort) (n : ℕ) → signature_of (with_functions (λ operator. true) defined wanted) function ≡ Some (record { takes = takes; gives = sorts.Bool }) → invariant_number function ≡ Some n
    → slice_get wanted n ≡ Some (record { takes = takes; gives = sorts.Bool })
wanted_number defined wanted (Wanted m) takes n there e = let same : m ≡ n = cc in subst (λ k. slice_get wanted k ≡ Some (record { takes = takes; gives = sorts.Bool })) same there
wanted_number defined wanted (Defined m) takes n there e = absurd cc

defined_number : (defined wanted : List Signature) (function : Fun) (takes : List Sort) (n : ℕ) → signature_of (with_functions (λ operator. true) defined wanted) function ≡ Some (record { takes = takes; gives = sorts.Bool }) → called_definition function ≡ Some n
    → slice_get defined n ≡ Some (record { takes = takes; gives = sorts.Bool })
defined_number defined wanted (Defined m) takes n there e = let same : m ≡ n = cc in subst (λ k. slice_get defined k ≡ Some (record { takes = takes; gives = sorts.Bool })) same there
defined_number defined wanted (Wanted m) takes n there e = absurd cc

invariant_there : (defined wanted : List Signature) (name : Spelled) (f : Called) → IsFunction defined wanted f → IfOk (as_invariant name f) (λ n. slice_get wanted n ≡ Some (record { takes = f.takes; gives = sorts.Bool }))
invariant_there defined wanted name f there =
    unless_refused (λ n. slice_get wanted n ≡ Some (record { takes = f.takes; gives = sorts.Bool })) (same_sort f.gives sorts.Bool) name.place cause.InvShape _ (λ e.
    where_found (λ n. slice_get wanted n ≡ Some (record { takes = f.takes; gives = sorts.Bool })) name.place cause.InvShape (invariant_number f.function) (λ n g.
    wanted_number defined wanted f.function f.takes n (there ∙ ap (λ s. Some (record { takes = f.takes; gives = s })) (same_sort_is f.gives sorts.Bool e)) g))

condition_there : (defined wanted : List Signature) (name : Spelled) (takes : List Sort) (f : Called) → IsFunction defined wanted f → IfOk (as_condition name takes f) (λ n. slice_get defined n ≡ Some (record { takes = takes; gives = sorts.Bool }))
condition_there defined wanted name takes f there =
    unless_refused (λ n. slice_get defined n ≡ Some (record { takes = takes; gives = sorts.Bool })) (same_sort f.gives sorts.Bool && same_sorts f.takes takes) name.place cause.InvShape _ (λ e.
    let both = both_true (same_sort f.gives sorts.Bool) (same_sorts f.takes takes) e in
    where_found (λ n. slice_get defined n ≡ Some (record { takes = takes; gives = sorts.Bool })) name.place cause.InvShape (called_definition f.function) (λ n g.
    defined_number defined wanted f.function takes n
    (there ∙ ap (λ s. Some (record { takes = f.takes; gives = s })) (same_sort_is f.gives sorts.Bool both.0) ∙ ap (λ ss. Some (record { takes = ss; gives = sorts.Bool })) (same_sorts_is f.takes takes both.1)) g))

owns_implies : (logic : Logic) → operators_of logic ops.Implies ≡ true
owns_implies Lia = refl
owns_implies Bv = refl

owns_and : (logic : Logic) → operators_of logic ops.And ≡ true
owns_and Lia = refl
owns_and Bv = refl

parts_there : (logic : Logic) (defined wanted : List Signature) (invariant before step after : Spelled) (i p t q : Called) → IsFunction defined wanted i → IsFunction defined wanted p → IsFunction defined wanted t → IsFunction defined wanted q
    → IfOk (invariant_parts invariant before step after i p t q) (IsInvariant (with_functions (operators_of logic) defined wanted) i.takes)
parts_there logic defined wanted invariant before step after i p t q i_is p_is t_is q_is =
    let P = IsInvariant (with_functions (operators_of logic) defined wanted) i.takes in
    chained _ P (as_invariant invariant i) _ (invariant_there defined wanted invariant i i_is) (λ inv inv_read inv_there.
    chained _ P (as_condition before i.takes p) _ (condition_there defined wanted before i.takes p p_is) (λ pre pre_read pre_there.
    chained _ P (as_condition step (i.takes ++ i.takes) t) _ (condition_there defined wanted step (i.takes ++ i.takes) t t_is) (λ trans trans_read trans_there.
    chained _ P (as_condition after i.takes q) _ (condition_there defined wanted after i.takes q q_is) (λ post post_read post_there.
    record { implies = owns_implies logic; and = owns_and logic; invariant = inv_there; before = pre_there; step = trans_there; after = post_there }))))

-- the sorts of its arguments are known
mapped : {A B : Type 0} (P : A → Type 0) (f : A → B) (xs : List A) (n : ℕ) (y : B) → All P xs → slice_get (map f xs) n ≡ Some y → (x : A) × P x × (f x ≡ y)
mapped P f [] n y all e = absurd cc
mapped P f (x ∷ xs) zero y all e = (x, All-head P x xs all, cc)
mapped P f (x ∷ xs) (suc n) y all e = mapped P f xs n y (All-tail P x xs all) e

formed_arguments : (numeric : Sort → Bool) (scope : Scope) (syntax : _) → is_formed numeric scope syntax ≡ true → list_all (is_known numeric) syntax.arguments ≡ true
formed_arguments numeric scope syntax e = (both_true (list_all (is_known numeric) syntax.arguments) _ (both_true _ _ e).1).0

state_known : (logic : Logic) (context : Context) → ContextIsSound logic context → (n : ℕ) (state : List Sort) → slice_get (signatures_wanted context.sought) n ≡ Some (record { takes = state; gives = sorts.Bool }) → list_all (is_known (number_sorts logic)) state ≡ true
state_known logic context sound n state there =
    let it = mapped (λ (f : Sought). GoalFits (operators_of logic) (number_sorts logic) (defined_in context.definitions) (goal_sought f)) signature_of_sought context.sought n (record { takes = state; gives = sorts.Bool }) sound.sought there in
    let known = formed_arguments (number_sorts logic) (with_functions (operators_of logic) (defined_in context.definitions) []) it.0.grammar it.1.formed in
    ap (list_all (is_known (number_sorts logic))) (sym (it.1.arguments ∙ ap (λ (s : Signature). s.takes) it.2)) ∙ known

-- the fresh variables stand behind all others
fresh_from : (variables state later : List Sort) → Extends (variables ++ state) later → AreFrom later (length variables) state
fresh_from variables state later more i s e = more (length variables + i) s (back_at variables state i (length variables + i) refl ∙ e)

later_invariant : (owned : Op → Bool) (defined wanted later_defined later_wanted : List Signature) (state : List Sort) (parts : Parts) → Extends defined later_defined → Extends wanted later_wanted
    → IsInvariant (with_functions owned defined wanted) state parts → IsInvariant (with_functions owned later_defined later_wanted) state parts
later_invariant owned defined wanted ld lw state parts d w is = record {
  implies = is.implies;
  and = is.and;
  invariant = w parts.invariant _ is.invariant;
  before = d parts.before _ is.before;
  step = d parts.step _ is.step;
  after = d parts.after _ is.after;
}

-- three in a row
all_three : {A : Type 0} (P : A → Type 0) (x y z : A) → P x → P y → P z → All P (x ∷ y ∷ z ∷ [])
all_three P x y z e f g = All-cons P x (y ∷ z ∷ []) e (All-cons P y (z ∷ []) f (All-cons P z [] g (All-nil P)))

conditions_fit : (owned : Op → Bool) (defined wanted : List Signature) (variables state : List Sort) (parts : Parts) → IsInvariant (with_functions owned defined wanted) state parts
    → All (ConditionFits owned defined wanted (variables ++ (state ++ state)))
    (Expanded (starts (length state) parts.before parts.invariant (length variables)) ∷ Expanded (keeps (length state) parts.step parts.invariant (length variables)) ∷ Expanded (ends (length state) parts.after parts.invariant (length variables)) ∷ [])
conditions_fit owned defined wanted variables state parts is =
    let first = length variables in
    all_three (ConditionFits owned defined wanted (variables ++ (state ++ state)))
    (Expanded (starts (length state) parts.before parts.invariant first)) (Expanded (keeps (length state) parts.step parts.invariant first)) (Expanded (ends (length state) parts.after parts.invariant first))
    (λ ld lw lv d w v. starts_fits (with_functions owned ld lw) lv state parts first (later_invariant owned defined wanted ld lw state parts d w is) (fresh_from variables (state ++ state) lv v))
    (λ ld lw lv d w v. keeps_fits (with_functions owned ld lw) lv state parts first (later_invariant owned defined wanted ld lw state parts d w is) (fresh_from variables (state ++ state) lv v))
    (λ ld lw lv d w v. ends_fits (with_functions owned ld lw) lv state parts first (later_invariant owned defined wanted ld lw state parts d w is) (fresh_from variables (state ++ state) lv v))

invariant_sound : (logic : Logic) (context : Context) (state : List Sort) (parts : Parts) → ContextIsSound logic context → IsInvariant (with_functions (operators_of logic) (defined_in context.definitions) (signatures_wanted context.sought)) state parts
    → ContextIsSound logic (with_invariant context state parts)
invariant_sound logic context state parts sound is =
    let owned = operators_of logic in
    let defined = defined_in context.definitions in
    let wanted = signatures_wanted context.sought in
    let variables = context.variables ++ (state ++ state) in
    let d = extends_itself defined in
    let w = extends_itself wanted in
    let v = extends_last context.variables (state ++ state) in
    let known = state_known logic context sound parts.invariant state is.invariant in
    record {
      set = sound.set;
      abbreviations = sound.abbreviations;
      names = sound.names;
      entities = declared_all defined wanted context.variables defined wanted variables d w v context.entities sound.entities;
      variables = list_all-append (is_known (number_sorts logic)) context.variables (state ++ state) sound.variables (list_all-append (is_known (number_sorts logic)) state state known known);
      definitions = sound.definitions;
      sought = sound.sought;
      assumptions = All-weaker (λ (p : Phrase). phrase_sort (setting_with owned defined [] context.variables) [] p ≡ Some sorts.Bool) _
          (λ p e. phrase_wider owned defined [] context.variables defined [] variables d (extends_itself []) v p sorts.Bool e) context.assumptions sound.assumptions;
      constraints = All-append (ConditionFits owned defined wanted variables) context.constraints _
          (All-weaker (ConditionFits owned defined wanted context.variables) (ConditionFits owned defined wanted variables)
          (λ c fit. condition_wider owned defined wanted context.variables defined wanted variables d w v c fit) context.constraints sound.constraints)
          (conditions_fit owned defined wanted context.variables state parts is);
      questions = sound.questions;
    }

pub invariants_sound : (logic : Logic) (context : Context) (place : Place) (invariant before step after : Spelled) → ContextIsSound logic context → IfOk (constrain_invariant context place invariant before step after) (ContextIsSound logic)
invariants_sound logic context place invariant before step after sound =
    let defined = defined_in context.definitions in
    let wanted = signatures_wanted context.sought in
    let P = IsFunction defined wanted in
    chained P (ContextIsSound logic) (function_named context invariant) _ (function_declared logic context sound invariant) (λ i i_read i_is.
    chained P (ContextIsSound logic) (function_named context before) _ (function_declared logic context sound before) (λ p p_read p_is.
    chained P (ContextIsSound logic) (function_named context step) _ (function_declared logic context sound step) (λ t t_read t_is.
    chained P (ContextIsSound logic) (function_named context after) _ (function_declared logic context sound after) (λ q q_read q_is.
    chained (IsInvariant (with_functions (operators_of logic) defined wanted) i.takes) (ContextIsSound logic) (invariant_parts invariant before step after i p t q) _
    (parts_there logic defined wanted invariant before step after i p t q i_is p_is t_is q_is) (λ parts parts_read parts_are.
    unless_refused (ContextIsSound logic) (has_room context (2 * length i.takes)) place cause.TooMany (Ok (with_invariant context i.takes parts)) (λ e.
    invariant_sound logic context i.takes parts sound parts_are))))))

-- Questions

question_more : (logic : Logic) (context : Context) → ContextIsSound logic context → ContextIsSound logic (record context { questions = context.questions ++ question_at context ∷ [] })
question_more logic context sound = record {
  set = sound.set;
  abbreviations = sound.abbreviations;
  names = sound.names;
  entities = sound.entities;
  variables = sound.variables;
  definitions = sound.definitions;
  sought = sound.sought;
  assumptions = sound.assumptions;
  constraints = sound.constraints;
  questions = All-push (QuestionFits (operators_of logic) (number_sorts logic)) context.questions (question_at context) sound.questions (question_fits logic context sound);
}

pub check_sound : (logic : Logic) (context : Context) (at : Place) → ContextIsSound logic context → IfOk (check_synth context at) (ContextIsSound logic)
check_sound logic context at sound =
    unless_refused (ContextIsSound logic) (nat_lt (length context.questions) 16) at cause.TooMany (Ok (with_question context)) (λ e. question_more logic context sound)
