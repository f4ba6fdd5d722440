-- A phrase that fits is a term that fits, with its let names behind all values in force.
use Rattle.std.specs.Prelude.{ℕ, zero, suc, ◌+◌, Bool, true, false, not, ◌++◌, List, [], ◌∷◌, length, slice_get, Option, Some, None, ◌≡◌, refl, if◌then◌else◌}
use Rattle.std.proofs.Common.{ap, sym, ◌∙◌, arith, append_assoc}
use Rattle.sy_terms.specs.Values.{Val}
use Rattle.sy_terms.specs.Theories.{valid, sort_of_value}
use Rattle.sy_terms.specs.Fitting.{Scope, Signature, applied_sort, called_sort, with_sort, after, signature_of, sort_in, sorts_in}
use Rattle.sy_terms.specs.declared.op.Op.{Op}
use Rattle.sy_terms.specs.declared.sort.Sort.{Sort}
use Rattle.sy_terms_operators.proofs.Equations.{if_Some, both_true, with_sort_Some, after_Some}
use Rattle.sy_grammar_base.specs.Formed.{is_plain}
use Rattle.sy_grammar_base.specs.Trees.{is_negative}
use Rattle.sy_forms_items.specs.Phrases as phrase
use Rattle.sy_forms_items.specs.Phrases.{Phrase, Phrases, expr_at, exprs_at}
use Rattle.sy_forms_linear.specs.Linear.{is_linear_product}
use Rattle.sy_forms.specs.Fitting.{Setting, phrase_sort, phrase_sorts}

-- an item of the first list, and one of the second behind it
pub front_at : {A : Type 0} (front back : List A) (place : ℕ) (x : A) → slice_get front place ≡ Some x → slice_get (front ++ back) place ≡ Some x
front_at [] back place x e = absurd cc
front_at (y ∷ front) back zero x e = e
front_at (y ∷ front) back (suc place) x e = front_at front back place x e

pub back_at : {A : Type 0} (front back : List A) (place at : ℕ) → at ≡ length front + place → slice_get (front ++ back) at ≡ slice_get back place
back_at [] back place at e = let same : at ≡ place = omega (arith, e) in ap (slice_get back) same
back_at (y ∷ front) back place zero e = absurd (omega (arith, e))
back_at (y ∷ front) back place (suc at) e = back_at front back place at (omega (arith, e))

-- what holds of a test's branch
pub where_true : {A : Type 0} (b : Bool) (found : Option A) (x : A) → (if b then found else None) ≡ Some x → (b ≡ true) × (found ≡ Some x)
where_true true found x e = (refl, e)
where_true false found x e = absurd cc

-- and where the test holds
pub where_allowed : {A : Type 0} (b : Bool) (found : Option A) (x : A) → b ≡ true → found ≡ Some x → (if b then found else None) ≡ Some x
where_allowed true found x b_is e = e
where_allowed false found x b_is e = absurd cc

valid_where_plain : (value : Val) (sort : Sort) → (if is_plain value then Some (sort_of_value value) else None) ≡ Some sort → (if valid value then Some (sort_of_value value) else None) ≡ Some sort
valid_where_plain value sort e =
    let found = if_Some (is_plain value) (sort_of_value value) sort e in
    let plain = both_true (valid value) (not (is_negative value)) found.0 in
    ap (λ (b : Bool). if b then Some (sort_of_value value) else None) plain.0 ∙ ap Some found.1

pub applied_as : (scope : Scope) (operator : Op) (one other : Option (List Sort)) (sort : Sort) → ((sorts : List Sort) → one ≡ Some sorts → other ≡ Some sorts) → applied_sort scope operator one ≡ Some sort → applied_sort scope operator other ≡ Some sort
applied_as scope operator None other sort same e = absurd cc
applied_as scope operator (Some sorts) other sort same e = ap (applied_sort scope operator) (same sorts refl) ∙ e

pub called_as : (signature : Option Signature) (one other : Option (List Sort)) (sort : Sort) → ((sorts : List Sort) → one ≡ Some sorts → other ≡ Some sorts) → called_sort signature one ≡ Some sort → called_sort signature other ≡ Some sort
called_as None one other sort same e = absurd cc
called_as (Some f) None other sort same e = absurd cc
called_as (Some f) (Some sorts) other sort same e = ap (called_sort (Some f)) (same sorts refl) ∙ e

-- what follows from what is found
pub after_as : (found : Option (List Sort)) (sorts : List Sort) (next : List Sort → Option Sort) (sort : Sort) → found ≡ Some sorts → next sorts ≡ Some sort → after found next ≡ Some sort
after_as found sorts next sort is e = rw is e

pub with_as : (first : Option Sort) (rest : Option (List Sort)) (sort : Sort) (sorts all : List Sort) → first ≡ Some sort → rest ≡ Some sorts → sort ∷ sorts ≡ all → with_sort first rest ≡ Some all
with_as first rest sort sorts all e f whole = rw (e, f) (ap Some whole)

mutual
  unfolding phrase_sort phrase_sorts expr_at exprs_at sort_in sorts_in

  pub expr_fits : (setting : Setting) (locals : List Sort) (it : Phrase) (sort : Sort) → setting.nonterminals ≡ [] → phrase_sort setting locals it ≡ Some sort → sort_in setting.scope (setting.values ++ locals) (expr_at (length setting.values) it) ≡ Some sort
  expr_fits setting locals (phrase.Literal value) sort none e = valid_where_plain value sort e
  expr_fits setting locals (phrase.Position position) sort none e = front_at setting.values locals position sort e
  expr_fits setting locals (phrase.Local level) sort none e = back_at setting.values locals level (length setting.values + level) refl ∙ e
  expr_fits setting locals (phrase.Nonterminal number) sort none e = let nothing : slice_get [] number ≡ Some sort = ap (λ (all : List Sort). slice_get all number) (sym none) ∙ e in absurd cc
  expr_fits setting locals (phrase.Operation operator arguments) sort none e =
      applied_as setting.scope operator (phrase_sorts setting locals arguments) _ sort (λ sorts found. exprs_fit setting locals arguments sorts none found)
      (where_true (is_linear_product setting.constants operator arguments) _ sort e).1
  expr_fits setting locals (phrase.Invocation function arguments) sort none e =
      called_as (signature_of setting.scope function) (phrase_sorts setting locals arguments) _ sort (λ sorts found. exprs_fit setting locals arguments sorts none found) e
  expr_fits setting locals (phrase.Let bound inner) sort none e =
      let found = after_Some (phrase_sorts setting locals bound) _ sort (where_true setting.lets _ sort e).1 in
      after_as _ found.sorts (λ all. sort_in setting.scope ((setting.values ++ locals) ++ all) (expr_at (length setting.values) inner)) sort (exprs_fit setting locals bound found.sorts none found.is)
      (ap (λ all. sort_in setting.scope all (expr_at (length setting.values) inner)) (append_assoc setting.values locals found.sorts)
      ∙ expr_fits setting (locals ++ found.sorts) inner sort none found.next_is)

  pub exprs_fit : (setting : Setting) (locals : List Sort) (all : Phrases) (sorts : List Sort) → setting.nonterminals ≡ [] → phrase_sorts setting locals all ≡ Some sorts → sorts_in setting.scope (setting.values ++ locals) (exprs_at (length setting.values) all) ≡ Some sorts
  exprs_fit setting locals phrase.none sorts none e = e
  exprs_fit setting locals (phrase.more first rest) sorts none e =
      let found = with_sort_Some (phrase_sort setting locals first) (phrase_sorts setting locals rest) sorts e in
      with_as _ _ found.sort found.sorts sorts (expr_fits setting locals first found.sort none found.first_is) (exprs_fit setting locals rest found.sorts none found.rest_is) found.whole_is
