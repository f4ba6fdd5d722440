-- Contexts in which all that is declared and asked fits.
use Rattle.std.specs.Prelude.{ℕ, Bool, true, false, List, [], ◌∷◌, ◌++◌, map, length, Option, Some, None, ◌≡◌, All, ⊤}
use Rattle.std.specs.List.{list_all}
use Rattle.sy_terms.specs.Fitting.{Signature, sort_in}
use Rattle.sy_terms.specs.declared.op.Op.{Op}
use Rattle.sy_terms.specs.declared.sort.Logic.{Logic}
use Rattle.sy_terms.specs.declared.sort.Sort.{Sort}
use Rattle.sy_terms.specs.declared.sort.Sort.TheVariants as sorts
use Rattle.sy_grammar_base.specs.Formed.{is_known}
use Rattle.sy_forms_items.specs.Operators.{is_reserved}
use Rattle.sy_forms_items.specs.Phrases.{Phrase}
use Rattle.sy_forms_items.specs.declared.names.Entity.{Entity}
use Rattle.sy_terms.specs.Logics.{number_sorts, operators_of}
use Rattle.sy_forms.specs.Fitting.{phrase_sort}
pub use Rattle.sy_forms.specs.Standing.{setting_with, IsDeclared}
use Rattle.sy_grammar_base.specs.Fits.{with_functions, GoalFits, QuestionFits}
use Rattle.sy_forms.specs.Right.{Extends}
use Rattle.sy_scope_names.specs.Lists.{sorts_of_names}
use Rattle.sy_scope_names.specs.Contexts as contexts
use Rattle.sy_scope_names.specs.Contexts.{Context, Definition, Sought, Condition, beginning, condition_at, goal_sought}

-- the signatures of the definitions and of the functions to be found
abbrev pub defined_in : List Definition → List Signature
defined_in definitions = map contexts.definition_signature definitions

abbrev pub signature_of_sought : Sought → Signature
signature_of_sought f = record { takes = sorts_of_names f.arguments; gives = f.sort }

abbrev pub signatures_wanted : List Sought → List Signature
signatures_wanted sought = map signature_of_sought sought

-- each body fits under the definitions before it
abbrev pub BodiesFitAfter : (Op → Bool) → List Signature → List Definition → Type 0
BodiesFitAfter owned earlier [] = ⊤
BodiesFitAfter owned earlier (d ∷ definitions) =
    (phrase_sort (setting_with owned earlier [] (sorts_of_names d.arguments)) [] d.body ≡ Some d.sort) × BodiesFitAfter owned (earlier ++ contexts.definition_signature d ∷ []) definitions

-- a truth value, also where more is declared
abbrev pub ConditionFits : (Op → Bool) → List Signature → List Signature → List Sort → Condition → Type 0
ConditionFits owned defined wanted variables condition =
    (later_defined later_wanted : List Signature) (later_variables : List Sort) →
    Extends defined later_defined → Extends wanted later_wanted → Extends variables later_variables →
    sort_in (with_functions owned later_defined later_wanted) later_variables (condition_at (length later_variables) condition) ≡ Some sorts.Bool

-- a context of the logic in which all fits
pub record ContextIsSound (logic : Logic) (context : Context) : Type 0 where
  pub set : context.logic ≡ Some logic
  pub abbreviations : All (λ (x : List ℕ × Sort). is_known (number_sorts logic) x.1 ≡ true) context.sorts
  pub names : All (λ (x : List ℕ × Entity). is_reserved logic x.0 ≡ false) context.entities
  pub entities : All (λ (x : List ℕ × Entity). IsDeclared (defined_in context.definitions) (signatures_wanted context.sought) context.variables x.1) context.entities
  pub variables : list_all (is_known (number_sorts logic)) context.variables ≡ true
  pub definitions : BodiesFitAfter (operators_of logic) [] context.definitions
  pub sought : All (λ (f : Sought). GoalFits (operators_of logic) (number_sorts logic) (defined_in context.definitions) (goal_sought f)) context.sought
  pub assumptions : All (λ (p : Phrase). phrase_sort (setting_with (operators_of logic) (defined_in context.definitions) [] context.variables) [] p ≡ Some sorts.Bool) context.assumptions
  pub constraints : All (ConditionFits (operators_of logic) (defined_in context.definitions) (signatures_wanted context.sought) context.variables) context.constraints
  pub questions : All (QuestionFits (operators_of logic) (number_sorts logic)) context.questions

-- before a logic is set there is nothing
abbrev pub SoundBy : Option Logic → Context → Type 0
SoundBy None context = context ≡ beginning
SoundBy (Some logic) context = ContextIsSound logic context

abbrev pub Sound : Context → Type 0
Sound context = SoundBy context.logic context
