-- Lists that go on, and what stays so where more is declared.
use Rattle.std.specs.Prelude.{suc, Bool, true, List, [], ◌∷◌, ◌++◌, map, length, slice_get, Some, ◌≡◌, refl}
use Rattle.std.specs.List.{list_all}
use Rattle.std.proofs.Common.{ap, sym, subst, append_assoc}
use Rattle.sy_terms.specs.Fitting.{Signature}
use Rattle.sy_terms.specs.declared.op.Op.{Op}
use Rattle.sy_terms.specs.declared.sort.Sort.{Sort}
use Rattle.sy_terms.specs.declared.term.Fun.TheVariants.{Defined, Wanted}
use Rattle.sy_forms_items.specs.declared.names.Entity.{Entity}
use Rattle.sy_forms_items.specs.declared.names.Entity.TheVariants as entity
use Rattle.sy_terms_operators.proofs.Equations.{both_true}
use Rattle.sy_forms.specs.Fitting.{phrase_sort}
use Rattle.sy_grammar_base.specs.Fits.{GoalFits}
use Rattle.sy_forms.specs.Right.{Extends, SettingWidens}
use Rattle.sy_forms.proofs.Exprs.{front_at}
use Rattle.sy_forms.proofs.Growing.{formed_wider}
use Rattle.sy_forms.proofs.Widening.{fits_wider}
use Rattle.sy_forms_items.specs.Phrases.{Phrase}
use Rattle.sy_grammar_base.specs.Questions.{Goal}
use Rattle.sy_scope_names.specs.Lists.{sorts_of_names}
use Rattle.sy_scope_names.specs.Contexts as contexts
use Rattle.sy_scope_names.specs.Contexts.{Definition, Sought}
use Rattle.sy_scope.specs.Sound.{defined_in, signature_of_sought, signatures_wanted, setting_with, IsDeclared, BodiesFitAfter, ConditionFits}

pub extends_itself : {A : Type 0} (xs : List A) → Extends xs xs
extends_itself xs place x e = e

pub extends_last : {A : Type 0} (xs : List A) (last : List A) → Extends xs (xs ++ last)
extends_last xs last place x e = front_at xs last place x e

pub last_at : {A : Type 0} (xs : List A) (x : A) → slice_get (xs ++ x ∷ []) (length xs) ≡ Some x
last_at [] x = refl
last_at (y ∷ xs) x = last_at xs x

-- the signatures with one definition or function more
pub defined_last : (definitions : List Definition) (d : Definition) → defined_in (definitions ++ d ∷ []) ≡ defined_in definitions ++ contexts.definition_signature d ∷ []
defined_last [] d = refl
defined_last (e ∷ definitions) d = ap (λ (all : List Signature). contexts.definition_signature e ∷ all) (defined_last definitions d)

pub wanted_last : (sought : List Sought) (f : Sought) → signatures_wanted (sought ++ f ∷ []) ≡ signatures_wanted sought ++ signature_of_sought f ∷ []
wanted_last [] f = refl
wanted_last (g ∷ sought) f = ap (λ (all : List Signature). signature_of_sought g ∷ all) (wanted_last sought f)

pub extends_defined : (definitions : List Definition) (d : Definition) → Extends (defined_in definitions) (defined_in (definitions ++ d ∷ []))
extends_defined definitions d = subst (Extends (defined_in definitions)) (sym (defined_last definitions d)) (extends_last (defined_in definitions) (contexts.definition_signature d ∷ []))

pub extends_wanted : (sought : List Sought) (f : Sought) → Extends (signatures_wanted sought) (signatures_wanted (sought ++ f ∷ []))
extends_wanted sought f = subst (Extends (signatures_wanted sought)) (sym (wanted_last sought f)) (extends_last (signatures_wanted sought) _)

pub count_of : {A B : Type 0} (f : A → B) (xs : List A) → length (map f xs) ≡ length xs
count_of f [] = refl
count_of f (x ∷ xs) = ap suc (count_of f xs)

-- the new one stands at its number
pub defined_at : (definitions : List Definition) (d : Definition) → slice_get (defined_in (definitions ++ d ∷ [])) (length definitions) ≡ Some (contexts.definition_signature d)
defined_at [] d = refl
defined_at (e ∷ definitions) d = defined_at definitions d

pub wanted_at : (sought : List Sought) (f : Sought) → slice_get (signatures_wanted (sought ++ f ∷ [])) (length sought) ≡ Some (signature_of_sought f)
wanted_at [] f = refl
wanted_at (g ∷ sought) f = wanted_at sought f

-- what is declared stays so
pub declared_wider : (defined wanted : List Signature) (variables : List Sort) (later_defined later_wanted : List Signature) (later_variables : List Sort) → Extends defined later_defined → Extends wanted later_wanted → Extends variables later_variables
    → (it : Entity) → IsDeclared defined wanted variables it → IsDeclared later_defined later_wanted later_variables it
declared_wider defined wanted variables ld lw lv d w v (entity.Variable position sort) e = v position sort e
declared_wider defined wanted variables ld lw lv d w v (entity.Function (Defined f) takes gives) e = d f (record { takes = takes; gives = gives }) e
declared_wider defined wanted variables ld lw lv d w v (entity.Function (Wanted f) takes gives) e = w f (record { takes = takes; gives = gives }) e

pub setting_wider : (owned : Op → Bool) (defined wanted : List Signature) (values : List Sort) (later_defined later_wanted : List Signature) (later_values : List Sort) → Extends defined later_defined → Extends wanted later_wanted → Extends values later_values
    → SettingWidens (setting_with owned defined wanted values) (setting_with owned later_defined later_wanted later_values)
setting_wider owned defined wanted values ld lw lv d w v = record {
  operators = λ operator e. e;
  defined = d;
  wanted = w;
  values = v;
  nonterminals = λ place x e. e;
  constants = refl;
  lets = λ e. e;
}

pub condition_wider : (owned : Op → Bool) (defined wanted : List Signature) (variables : List Sort) (later_defined later_wanted : List Signature) (later_variables : List Sort) → Extends defined later_defined → Extends wanted later_wanted → Extends variables later_variables
    → (it : _) → ConditionFits owned defined wanted variables it → ConditionFits owned later_defined later_wanted later_variables it
condition_wider owned defined wanted variables ld lw lv d w v it fit nd nw nv dd ww vv =
    fit nd nw nv (λ place x e. dd place x (d place x e)) (λ place x e. ww place x (w place x e)) (λ place x e. vv place x (v place x e))

pub goal_wider : (owned : Op → Bool) (numeric : Sort → Bool) (defined later : List Signature) → Extends defined later → (goal : Goal) → GoalFits owned numeric defined goal → GoalFits owned numeric later goal
goal_wider owned numeric defined later more goal fit = record {
  formed = formed_wider owned defined later [] more goal.grammar numeric fit.formed;
  arguments = fit.arguments;
  start = fit.start;
}

-- one definition more
pub fit_after-last : (owned : Op → Bool) (earlier : List Signature) (definitions : List Definition) (d : Definition) → BodiesFitAfter owned earlier definitions
    → phrase_sort (setting_with owned (earlier ++ defined_in definitions) [] (sorts_of_names d.arguments)) [] d.body ≡ Some d.sort → BodiesFitAfter owned earlier (definitions ++ d ∷ [])
fit_after-last owned earlier [] d fit e = (subst (λ all. phrase_sort (setting_with owned all [] (sorts_of_names d.arguments)) [] d.body ≡ Some d.sort) (append_none earlier) e, tt)
  where
    append_none : (all : List Signature) → all ++ [] ≡ all
    append_none [] = refl
    append_none (x ∷ all) = ap (λ (rest : List Signature). x ∷ rest) (append_none all)
fit_after-last owned earlier (first ∷ definitions) d fit e = (
  fit.0,
  fit_after-last owned (earlier ++ contexts.definition_signature first ∷ []) definitions d fit.1
      (subst (λ all. phrase_sort (setting_with owned all [] (sorts_of_names d.arguments)) [] d.body ≡ Some d.sort) (sym (append_assoc earlier (contexts.definition_signature first ∷ []) (defined_in definitions))) e),
)

pub list_all-append : (p : Sort → Bool) (xs ys : List Sort) → list_all p xs ≡ true → list_all p ys ≡ true → list_all p (xs ++ ys) ≡ true
list_all-append p [] ys e f = f
list_all-append p (x ∷ xs) ys e f =
    let both = both_true (p x) (list_all p xs) e in
    rw (both.0, list_all-append p xs ys both.1 f) refl

pub phrase_wider : (owned : Op → Bool) (defined wanted : List Signature) (values : List Sort) (later_defined later_wanted : List Signature) (later_values : List Sort) → Extends defined later_defined → Extends wanted later_wanted → Extends values later_values
    → (it : Phrase) (sort : Sort) → phrase_sort (setting_with owned defined wanted values) [] it ≡ Some sort → phrase_sort (setting_with owned later_defined later_wanted later_values) [] it ≡ Some sort
phrase_wider owned defined wanted values ld lw lv d w v it sort e =
    fits_wider (setting_with owned defined wanted values) (setting_with owned ld lw lv) (setting_wider owned defined wanted values ld lw lv d w v) [] it sort e
