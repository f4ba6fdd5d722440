-- All that a file asks fits.
use Rattle.std.specs.Prelude.{ℕ, zero, suc, ◌+◌, Bool, true, false, List, [], length, Option, Some, None, Result, Ok, Err, ◌≡◌, refl, All, ⊤, IfOk}
use Rattle.std.proofs.Common.{sym, subst}
use Rattle.std.proofs.lemmas.List.Elements.{All-nil}
use Rattle.sy_text_items.specs.Items.{Item}
use Rattle.sy_text_items.specs.declared.atom.Place.{Place}
use Rattle.sy_scope_causes.specs.declared.cause.Cause.TheVariants as cause
use Rattle.sy_scope_causes.specs.declared.cause.Refused.{Refused}
use Rattle.sy_terms.specs.declared.op.Op.{Op}
use Rattle.sy_terms.specs.declared.sort.Logic.{Logic}
use Rattle.sy_terms.specs.declared.sort.Sort.{Sort}
use Rattle.sy_terms.specs.declared.sort.Sort.TheVariants as sorts
use Rattle.sy_terms.specs.Logics.{IsTheoryOf, number_sorts, operators_of}
use Rattle.sy_forms_items.specs.declared.names.Entity.{Entity}
use Rattle.sy_forms_items.specs.Operators.{is_reserved}
use Rattle.sy_forms_items.specs.Phrases.{Phrase}
use Rattle.sy_forms_items.specs.Readings.{Reading, found_or}
use Rattle.sy_scope_names.specs.Requests as requests
use Rattle.sy_scope_names.specs.Requests.{Request, Spelled}
use Rattle.sy_forms.specs.Fitting.{phrase_sort}
use Rattle.sy_grammar_base.specs.Fits.{GoalFits, QuestionFits}
use Rattle.sy_forms.proofs.Readings.{chained, weaker, any_read}
use Rattle.sy_grammar_base.specs.Formed.{is_known}
use Rattle.sy_scope_names.specs.Contexts.{Context, Sought, beginning, with_logic, goal_sought}
use Rattle.sy_scope_steps.specs.Files.{FileOutcome, command_read, then_next, after_command, file_from, file_read}
use Rattle.sy_scope_names.specs.Changes.{PlacedRequest, logic_named, first_logic, set_logic, feature_set, set_feature, command_asked}
use Rattle.sy_scope_steps.specs.Steps.{perform_in, perform_first, perform, step}
use Rattle.sy_scope.specs.Sound.{setting_with, IsDeclared, ConditionFits, ContextIsSound, SoundBy, Sound}
use Rattle.sy_scope.proofs.Asking.{constrain_sound, assume_sound, invariants_sound, check_sound}
use Rattle.sy_scope.proofs.Declaring.{declare_sound, define_sort_sound, define_sound}
use Rattle.sy_scope.proofs.Synthesising.{synthesise_sound}

pub sound_of : (logic : Logic) (context : Context) → ContextIsSound logic context → Sound context
sound_of logic context sound = subst (λ l. SoundBy l context) (sym sound.set) sound

-- the first logic
pub begun_sound : (logic : Logic) → ContextIsSound logic (with_logic logic beginning)
begun_sound logic = record {
  set = refl;
  abbreviations = All-nil (λ (x : List ℕ × Sort). is_known (number_sorts logic) x.1 ≡ true);
  names = All-nil (λ (x : List ℕ × Entity). is_reserved logic x.0 ≡ false);
  entities = All-nil (λ (x : List ℕ × Entity). IsDeclared [] [] [] x.1);
  variables = refl;
  definitions = tt;
  sought = All-nil (λ (f : Sought). GoalFits (operators_of logic) (number_sorts logic) [] (goal_sought f));
  assumptions = All-nil (λ (p : Phrase). phrase_sort (setting_with (operators_of logic) [] [] []) [] p ≡ Some sorts.Bool);
  constraints = All-nil (ConditionFits (operators_of logic) [] [] []);
  questions = All-nil (QuestionFits (operators_of logic) (number_sorts logic));
}

set_first : (name : Spelled) → IfOk (set_logic beginning name) Sound
set_first name =
    chained (λ l. ⊤) Sound (found_or name.place cause.Logic (first_logic None (logic_named name.name))) _ (any_read (found_or name.place cause.Logic (first_logic None (logic_named name.name)))) (λ l is any. begun_sound l)

set_again : (logic : Logic) (context : Context) (found : Option Logic) (name : Spelled) → found ≡ Some logic → IfOk (found_or name.place cause.Logic (first_logic found (logic_named name.name))) (λ l. Sound (with_logic l context))
set_again logic context None name e = absurd cc
set_again logic context (Some other) name e = tt

set_sound : (logic : Logic) (context : Context) (name : Spelled) → ContextIsSound logic context → IfOk (set_logic context name) Sound
set_sound logic context name sound =
    chained (λ l. Sound (with_logic l context)) Sound (found_or name.place cause.Logic (first_logic context.logic (logic_named name.name))) _ (set_again logic context context.logic name sound.set) (λ l is holds. holds)

feature_sound : (context : Context) (feature : Spelled) (on : Bool) → Sound context → IfOk (set_feature context feature on) Sound
feature_sound context feature on sound = chained (λ x. ⊤) Sound (feature_set feature on) _ (any_read (feature_set feature on)) (λ x is any. sound)

in_logic : (logic : Logic) (read : Reading Context) → IfOk read (ContextIsSound logic) → IfOk read Sound
in_logic logic read holds = weaker (ContextIsSound logic) Sound read holds (sound_of logic)

-- a command before a logic was set, and one in a logic
first_sound : (at : Place) (request : Request) → IfOk (perform_first beginning at request) Sound
unfolding perform_first
first_sound at (requests.ToSetLogic name) = set_first name
first_sound at (requests.ToSetFeature feature on) = feature_sound beginning feature on refl
first_sound at requests.ToNote = refl
first_sound at (requests.ToDeclareVariable name sort) = tt
first_sound at (requests.ToDefineSort name sort) = tt
first_sound at (requests.ToDefine name arguments sort body) = tt
first_sound at (requests.ToSynthesise name arguments sort rules) = tt
first_sound at (requests.ToSynthesiseInvariant name arguments rules) = tt
first_sound at (requests.ToConstrain term) = tt
first_sound at (requests.ToAssume term) = tt
first_sound at (requests.ToConstrainInvariant i p t q) = tt
first_sound at requests.ToCheck = tt

performed_sound : (logic : Logic) (context : Context) (place at : Place) (request : Request) → ContextIsSound logic context → IfOk (perform_in context logic place at request) Sound
unfolding perform_in
performed_sound logic context place at (requests.ToSetLogic name) sound = set_sound logic context name sound
performed_sound logic context place at (requests.ToSetFeature feature on) sound = feature_sound context feature on (sound_of logic context sound)
performed_sound logic context place at requests.ToNote sound = sound_of logic context sound
performed_sound logic context place at (requests.ToDeclareVariable name sort) sound = in_logic logic _ (declare_sound logic context name sort sound)
performed_sound logic context place at (requests.ToDefineSort name sort) sound = in_logic logic _ (define_sort_sound logic context name sort sound)
performed_sound logic context place at (requests.ToDefine name arguments sort body) sound = in_logic logic _ (define_sound logic context name arguments sort body sound)
performed_sound logic context place at (requests.ToSynthesise name arguments sort rules) sound = in_logic logic _ (synthesise_sound logic context name arguments (Some sort) rules sound)
performed_sound logic context place at (requests.ToSynthesiseInvariant name arguments rules) sound = in_logic logic _ (synthesise_sound logic context name arguments None rules sound)
performed_sound logic context place at (requests.ToConstrain term) sound = in_logic logic _ (constrain_sound logic context term sound)
performed_sound logic context place at (requests.ToAssume term) sound = in_logic logic _ (assume_sound logic context term sound)
performed_sound logic context place at (requests.ToConstrainInvariant i p t q) sound = in_logic logic _ (invariants_sound logic context place i p t q sound)
performed_sound logic context place at requests.ToCheck sound = in_logic logic _ (check_sound logic context at sound)

perform_sound : (context : Context) (logic : Option Logic) (x : PlacedRequest) → SoundBy logic context → IfOk (perform context logic x) Sound
perform_sound context None x sound = subst (λ c. IfOk (perform c None x) Sound) (sym sound) (first_sound x.at x.request)
perform_sound context (Some logic) x sound = performed_sound logic context x.place x.at x.request sound

-- each step keeps a context sound
pub step_sound : (context : Context) (item : Item) → Sound context → IfOk (step context item) Sound
unfolding step
step_sound context item sound = chained (λ x. ⊤) Sound (command_asked item) _ (any_read (command_asked item)) (λ x is any. perform_sound context context.logic x sound)

-- and so does a file
next_sound : (command : ℕ) (read : Reading Context) (next : Context → FileOutcome) → IfOk read Sound → ((context : Context) → Sound context → IfOk (next context) Sound) → IfOk (then_next command read next) Sound
next_sound command (Ok context) next holds later = later context holds
next_sound command (Err fault) next holds later = tt

after_sound : (command : ℕ) (context : Context) (read : Result (Option (Item × ℕ)) Refused) (next : ℕ → Context → FileOutcome) → Sound context → ((after : ℕ) (later : Context) → Sound later → IfOk (next after later) Sound) → IfOk (after_command command context read next) Sound
after_sound command context (Ok None) next sound later = sound
after_sound command context (Ok (Some x)) next sound later = next_sound command (step context x.0) (next x.1) (step_sound context x.0 sound) (later x.1)
after_sound command context (Err refused) next sound later = tt

file_sound : (most command : ℕ) (file : List ℕ) (at : ℕ) (context : Context) → Sound context → IfOk (file_from most command file at context) Sound
unfolding file_from
file_sound zero command file at context sound = sound
file_sound (suc most) command file at context sound =
    after_sound command context (command_read file command at) _ sound (λ after later later_sound. file_sound most (command + 1) file after later later_sound)

-- what a sound context asks fits under the theory of its logic
asked_fit : (context : Context) (logic : Logic) (owned : Op → Bool) (numeric : Sort → Bool) → IsTheoryOf logic owned numeric → Sound context → context.logic ≡ Some logic → All (QuestionFits owned numeric) context.questions
asked_fit context logic owned numeric of sound e =
    let same : ContextIsSound logic context = subst (λ l. SoundBy l context) e sound in
    let operators : operators_of logic ≡ owned = λ i. λ operator. sym (of.operators operator) i in
    let numbers : number_sorts logic ≡ numeric = λ i. λ s. sym (of.sorts s) i in
    subst (λ (o : Op → Bool). All (QuestionFits o numeric) context.questions) operators (subst (λ (n : Sort → Bool). All (QuestionFits (operators_of logic) n) context.questions) numbers same.questions)

pub file_fits : (file : List ℕ) (logic : Logic) (owned : Op → Bool) (numeric : Sort → Bool) → IsTheoryOf logic owned numeric → IfOk (file_read file) (λ context. context.logic ≡ Some logic → All (QuestionFits owned numeric) context.questions)
file_fits file logic owned numeric of = result_weaker (file_read file) (file_sound (length file + 1) 1 file 0 beginning refl)
  where
    result_weaker : (read : FileOutcome) → IfOk read Sound → IfOk read (λ context. context.logic ≡ Some logic → All (QuestionFits owned numeric) context.questions)
    result_weaker (Ok context) sound = asked_fit context logic owned numeric of sound
    result_weaker (Err refused) sound = tt
