-- What a sound context asks fits.
use Rattle.std.specs.Prelude.{Bool, List, [], ◌∷◌, ◌++◌, map, length, Some, ◌≡◌, refl}
use Rattle.std.proofs.Common.{ap, subst}
use Rattle.std.proofs.lemmas.List.Elements.{All-map, All-weaker}
use Rattle.sy_terms.specs.Fitting.{Signature, sort_in}
use Rattle.sy_terms.specs.declared.op.Op.{Op}
use Rattle.sy_terms.specs.declared.sort.Logic.{Logic}
use Rattle.sy_terms.specs.declared.sort.Sort.{Sort}
use Rattle.sy_terms.specs.declared.sort.Sort.TheVariants as sorts
use Rattle.sy_terms.specs.Logics.{number_sorts, operators_of}
use Rattle.sy_grammar_base.specs.Questions.{Goal}
use Rattle.sy_forms_items.specs.Phrases.{Phrase, expr_at}
use Rattle.sy_forms_items.specs.declared.names.Named.{Named}
use Rattle.sy_forms.specs.Fitting.{phrase_sort}
use Rattle.sy_grammar_base.specs.Fits.{with_functions, FitInTurn, GoalFits, QuestionFits}
use Rattle.sy_forms.proofs.Whole.{term_fits}
use Rattle.sy_scope_names.specs.Lists.{sorts_of_names}
use Rattle.sy_scope_names.specs.Contexts as contexts
use Rattle.sy_scope_names.specs.Contexts.{Context, Definition, Sought, condition_at, goal_sought, question_at}
use Rattle.sy_scope.specs.Sound.{defined_in, signature_of_sought, signatures_wanted, setting_with, BodiesFitAfter, ConditionFits, ContextIsSound}
use Rattle.sy_scope.proofs.Extending.{extends_itself, count_of}

body_fits : (owned : Op → Bool) (defined : List Signature) (arguments : List Named) (it : Phrase) (sort : Sort) → phrase_sort (setting_with owned defined [] (sorts_of_names arguments)) [] it ≡ Some sort
    → sort_in (with_functions owned defined []) (sorts_of_names arguments) (expr_at (length arguments) it) ≡ Some sort
body_fits owned defined arguments it sort e =
    subst (λ n. sort_in (with_functions owned defined []) (sorts_of_names arguments) (expr_at n it) ≡ Some sort) (count_of (λ (x : Named). x.sort) arguments) (term_fits (setting_with owned defined [] (sorts_of_names arguments)) it sort refl e)

definitions_fit : (owned : Op → Bool) (earlier : List Signature) (definitions : List Definition) → BodiesFitAfter owned earlier definitions
    → FitInTurn owned earlier (map contexts.definition_signature definitions) (map contexts.body_of definitions)
definitions_fit owned earlier [] fit = tt
definitions_fit owned earlier (d ∷ definitions) fit = (body_fits owned earlier d.arguments d.body d.sort fit.0, definitions_fit owned (earlier ++ contexts.definition_signature d ∷ []) definitions fit.1)

wanted_goals : (sought : List Sought) → signatures_wanted sought ≡ map (λ (g : Goal). g.signature) (map goal_sought sought)
wanted_goals [] = refl
wanted_goals (f ∷ sought) = ap (λ (all : List Signature). signature_of_sought f ∷ all) (wanted_goals sought)

pub question_fits : (logic : Logic) (context : Context) → ContextIsSound logic context → QuestionFits (operators_of logic) (number_sorts logic) (question_at context)
question_fits logic context sound =
    let owned = operators_of logic in
    let defined = defined_in context.definitions in
    record {
      definitions = definitions_fit owned [] context.definitions sound.definitions;
      variables = sound.variables;
      goals = All-map (GoalFits owned (number_sorts logic) defined) goal_sought context.sought sound.sought;
      assumptions = All-map (λ term. sort_in (with_functions owned defined []) context.variables term ≡ Some sorts.Bool) (expr_at (length context.variables)) context.assumptions
          (All-weaker (λ (p : Phrase). phrase_sort (setting_with owned defined [] context.variables) [] p ≡ Some sorts.Bool) _ (λ p e. term_fits (setting_with owned defined [] context.variables) p sorts.Bool refl e) context.assumptions sound.assumptions);
      constraints = All-map (λ term. sort_in (with_functions owned defined (map (λ (g : Goal). g.signature) (map goal_sought context.sought))) context.variables term ≡ Some sorts.Bool) (condition_at (length context.variables)) context.constraints
          (All-weaker (ConditionFits owned defined (signatures_wanted context.sought) context.variables) _
          (λ c fit. subst (λ wanted. sort_in (with_functions owned defined wanted) context.variables (condition_at (length context.variables) c) ≡ Some sorts.Bool) (wanted_goals context.sought)
          (fit defined (signatures_wanted context.sought) context.variables (extends_itself defined) (extends_itself (signatures_wanted context.sought)) (extends_itself context.variables))) context.constraints sound.constraints);
    }
