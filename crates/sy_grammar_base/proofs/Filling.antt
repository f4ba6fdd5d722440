-- A pattern that fits, filled with terms of its nonterminals' sorts, is a term that fits.
use Rattle.std.proofs.Common.{◌≡◌, ℕ, List, [], ◌∷◌, ◌++◌, length, take, drop, refl, ap, ◌∙◌, Option, Some, None, slice_get, Bool, true, false}
use Rattle.std.specs.Prelude.{if◌then◌else◌, not}
use Rattle.std.specs.Option.{option_map}
use Rattle.sy_terms.specs.Values.{Val}
use Rattle.sy_terms.specs.Theories.{sort_of_value, valid}
use Rattle.sy_terms.specs.Expr.{Expr}
use Rattle.sy_terms.specs.Fitting.{Scope, Signature, sort_in, sorts_in, applied_sort, called_sort}
use Rattle.sy_terms.specs.declared.op.Op.{Op}
use Rattle.sy_terms.specs.declared.sort.Sort.{Sort}
use Rattle.sy_terms_operators.proofs.Equations.{if_Some, both_true, with_sort_Some}
use Rattle.sy_grammar_base.specs.Patterns as patterns
use Rattle.sy_grammar_base.specs.Patterns.{Pattern, Patterns, Constant, Variable, Occurrence, Apply, Invoke, occurring, all_occurring, filled, all_filled}
use Rattle.sy_grammar_base.specs.Trees.{Nonterminal, Syntax, is_negative}
use Rattle.sy_grammar_base.specs.Formed.{is_plain, is_linear, pattern_sort, pattern_sorts}

-- the sort of a nonterminal
abbrev pub sort_at : Syntax → ℕ → Option Sort
sort_at syntax nonterminal = option_map (λ (n : Nonterminal). n.sort) (slice_get syntax.nonterminals nonterminal)

-- each term has the sort of its nonterminal
abbrev pub AllFit : Scope → Syntax → List ℕ → List Expr → Type 0
AllFit scope syntax [] [] = Unit {0}
AllFit scope syntax [] (term ∷ terms) = ⊥
AllFit scope syntax (nonterminal ∷ rest) [] = ⊥
AllFit scope syntax (nonterminal ∷ rest) (term ∷ terms) = ((sort : Sort) → sort_at syntax nonterminal ≡ Some sort → sort_in scope syntax.arguments term ≡ Some sort) × AllFit scope syntax rest terms

front_fit : (scope : Scope) (syntax : Syntax) (front back : List ℕ) (terms : List Expr) → AllFit scope syntax (front ++ back) terms → AllFit scope syntax front (take (length front) terms)
front_fit scope syntax [] back [] fit = tt
front_fit scope syntax [] back (term ∷ terms) fit = tt
front_fit scope syntax (n ∷ front) back [] fit = absurd fit
front_fit scope syntax (n ∷ front) back (term ∷ terms) fit = (fit.0, front_fit scope syntax front back terms fit.1)

back_fit : (scope : Scope) (syntax : Syntax) (front back : List ℕ) (terms : List Expr) → AllFit scope syntax (front ++ back) terms → AllFit scope syntax back (drop (length front) terms)
back_fit scope syntax [] back [] fit = fit
back_fit scope syntax [] back (term ∷ terms) fit = fit
back_fit scope syntax (n ∷ front) back [] fit = absurd fit
back_fit scope syntax (n ∷ front) back (term ∷ terms) fit = back_fit scope syntax front back terms fit.1

where_linear : (b : Bool) (found : Option Sort) (sort : Sort) → (if b then found else None) ≡ Some sort → found ≡ Some sort
where_linear true found sort e = e
where_linear false found sort e = cc

applied_as : (scope : Scope) (operator : Op) (one other : Option (List Sort)) (sort : Sort) → ((sorts : List Sort) → one ≡ Some sorts → other ≡ Some sorts) → applied_sort scope operator one ≡ Some sort → applied_sort scope operator other ≡ Some sort
applied_as scope operator None other sort same e = cc
applied_as scope operator (Some sorts) other sort same e = ap (applied_sort scope operator) (same sorts refl) ∙ e

called_as : (signature : Option Signature) (one other : Option (List Sort)) (sort : Sort) → ((sorts : List Sort) → one ≡ Some sorts → other ≡ Some sorts) → called_sort signature one ≡ Some sort → called_sort signature other ≡ Some sort
called_as None one other sort same e = cc
called_as (Some f) None other sort same e = cc
called_as (Some f) (Some sorts) other sort same e = ap (called_sort (Some f)) (same sorts refl) ∙ e

where_valid : (value : Val) (sort : Sort) → (if (is_plain value) then Some (sort_of_value value) else None) ≡ Some sort → (if (valid value) then Some (sort_of_value value) else None) ≡ Some sort
where_valid value sort e =
    let found = if_Some (is_plain value) (sort_of_value value) sort e in
    let plain = both_true (valid value) (not (is_negative value)) found.0 in
    ap (λ (b : Bool). if b then Some (sort_of_value value) else None) plain.0 ∙ ap Some found.1

mutual
  unfolding filled all_filled sort_in sorts_in pattern_sort pattern_sorts

  pub filled_fits : (scope : Scope) (syntax : Syntax) (pattern : Pattern) (terms : List Expr) (sort : Sort) → AllFit scope syntax (occurring pattern) terms → pattern_sort scope syntax pattern ≡ Some sort → sort_in scope syntax.arguments (filled pattern terms) ≡ Some sort
  filled_fits scope syntax (Constant value) terms sort fit e = where_valid value sort e
  filled_fits scope syntax (Variable position) terms sort fit e = e
  filled_fits scope syntax (Occurrence nonterminal) [] sort fit e = absurd fit
  filled_fits scope syntax (Occurrence nonterminal) (term ∷ terms) sort fit e = fit.0 sort e
  filled_fits scope syntax (Apply operator arguments) terms sort fit e =
      applied_as scope operator (pattern_sorts scope syntax arguments) (sorts_in scope syntax.arguments (all_filled arguments terms)) sort
      (λ sorts found. all_filled_fit scope syntax arguments terms sorts fit found)
      (where_linear (is_linear syntax.nonterminals operator arguments) _ sort e)
  filled_fits scope syntax (Invoke definition arguments) terms sort fit e =
      called_as (slice_get scope.defined definition) (pattern_sorts scope syntax arguments) (sorts_in scope syntax.arguments (all_filled arguments terms)) sort
      (λ sorts found. all_filled_fit scope syntax arguments terms sorts fit found) e

  pub all_filled_fit : (scope : Scope) (syntax : Syntax) (parts : Patterns) (terms : List Expr) (sorts : List Sort) → AllFit scope syntax (all_occurring parts) terms → pattern_sorts scope syntax parts ≡ Some sorts → sorts_in scope syntax.arguments (all_filled parts terms) ≡ Some sorts
  all_filled_fit scope syntax patterns.none terms sorts fit e = e
  all_filled_fit scope syntax (patterns.more first rest) terms sorts fit e =
      let found = with_sort_Some (pattern_sort scope syntax first) (pattern_sorts scope syntax rest) sorts e in
      let one = filled_fits scope syntax first (take (length (occurring first)) terms) found.sort (front_fit scope syntax (occurring first) (all_occurring rest) terms fit) found.first_is in
      let others = all_filled_fit scope syntax rest (drop (length (occurring first)) terms) found.sorts (back_fit scope syntax (occurring first) (all_occurring rest) terms fit) found.rest_is in
      rw (one, others) (ap Some found.whole_is)
