-- A well-formed grammar stays so where there are more definitions.
use Rattle.std.specs.Prelude.{◌^◌, Bool, true, ◌&&◌, nat_le, nat_lt, List, [], ◌∷◌, length, slice_get, Option, Some, None, ◌≡◌, refl}
use Rattle.std.specs.List.{list_all}
use Rattle.std.proofs.Common.{ap}
use Rattle.sy_terms.specs.Fitting.{Signature}
use Rattle.sy_terms.specs.declared.op.Op.{Op}
use Rattle.sy_terms.specs.declared.sort.Sort.{Sort}
use Rattle.sy_terms_operators.proofs.Equations.{both_true, with_sort_Some}
use Rattle.sy_grammar_base.specs.Formed.{is_linear, is_known, is_formed, nonterminal_fits, pattern_sort, pattern_sorts, rule_sort}
use Rattle.sy_grammar_base.specs.Patterns as pattern
use Rattle.sy_grammar_base.specs.Patterns.{Pattern, Patterns}
use Rattle.sy_grammar_base.specs.Trees.{Production, Template, EachConstant, EachVariable, Nonterminal, Syntax, is_sort}
use Rattle.sy_grammar_base.specs.Fits.{with_functions}
use Rattle.sy_grammar_base.specs.Extending.{Extends}
use Rattle.sy_grammar_base.proofs.Widening.{called_wider}
use Rattle.sy_forms.proofs.Exprs.{where_true, applied_as}

and_true : (a b : Bool) → a ≡ true → b ≡ true → (a && b) ≡ true
and_true a b e f = rw (e, f) refl

list_all_wider : {A : Type 0} (P Q : A → Bool) → ((x : A) → P x ≡ true → Q x ≡ true) → (xs : List A) → list_all P xs ≡ true → list_all Q xs ≡ true
list_all_wider P Q wider [] e = refl
list_all_wider P Q wider (x ∷ xs) e =
    let both = both_true (P x) (list_all P xs) e in
    and_true (Q x) (list_all Q xs) (wider x both.0) (list_all_wider P Q wider xs both.1)

module _ (owned : Op → Bool) (earlier later wanted : List Signature) (more : Extends earlier later) (syntax : Syntax) where
  mutual
    unfolding pattern_sort pattern_sorts

    sort_wider : (it : Pattern) (sort : Sort) → pattern_sort (with_functions owned earlier wanted) syntax it ≡ Some sort → pattern_sort (with_functions owned later wanted) syntax it ≡ Some sort
    sort_wider (pattern.Constant value) sort e = e
    sort_wider (pattern.Variable position) sort e = e
    sort_wider (pattern.Occurrence nonterminal) sort e = e
    sort_wider (pattern.Apply operator arguments) sort e =
        let found = where_true (is_linear syntax.nonterminals operator arguments) _ sort e in
        rw found.0 (applied_as (with_functions owned later wanted) operator (pattern_sorts (with_functions owned earlier wanted) syntax arguments) _ sort (λ sorts is. sorts_wider arguments sorts is) found.1)
    sort_wider (pattern.Invoke definition arguments) sort e =
        called_wider (slice_get earlier definition) _ (pattern_sorts (with_functions owned earlier wanted) syntax arguments) _ sort (λ f is. more definition f is) (λ sorts is. sorts_wider arguments sorts is) e

    sorts_wider : (all : Patterns) (sorts : List Sort) → pattern_sorts (with_functions owned earlier wanted) syntax all ≡ Some sorts → pattern_sorts (with_functions owned later wanted) syntax all ≡ Some sorts
    sorts_wider pattern.none sorts e = e
    sorts_wider (pattern.more first rest) sorts e =
        let found = with_sort_Some (pattern_sort (with_functions owned earlier wanted) syntax first) (pattern_sorts (with_functions owned earlier wanted) syntax rest) sorts e in
        rw (sort_wider first found.sort found.first_is, sorts_wider rest found.sorts found.rest_is) (ap Some found.whole_is)

  rule_wider : (rule : Production) (sort : Sort) → rule_sort (with_functions owned earlier wanted) syntax rule ≡ Some sort → rule_sort (with_functions owned later wanted) syntax rule ≡ Some sort
  rule_wider (Template it) sort e = sort_wider it sort e
  rule_wider (EachConstant s) sort e = e
  rule_wider (EachVariable s) sort e = e

  sorted_wider : (sort : Sort) (one other : Option Sort) → ((s : Sort) → one ≡ Some s → other ≡ Some s) → is_sort sort one ≡ true → is_sort sort other ≡ true
  sorted_wider sort None other same e = absurd cc
  sorted_wider sort (Some s) other same e = rw (same s refl) e

  nonterminal_wider : (numeric : Sort → Bool) (n : Nonterminal) → nonterminal_fits numeric (with_functions owned earlier wanted) syntax n ≡ true → nonterminal_fits numeric (with_functions owned later wanted) syntax n ≡ true
  nonterminal_wider numeric n e =
      let known = both_true (is_known numeric n.sort) _ e in
      let few = both_true (nat_lt (length n.rules) (2 ^ 31)) _ known.1 in
      and_true _ _ known.0 (and_true _ _ few.0 (list_all_wider _ _ (λ rule. sorted_wider n.sort _ _ (rule_wider rule)) n.rules few.1))

  pub formed_wider : (numeric : Sort → Bool) → is_formed numeric (with_functions owned earlier wanted) syntax ≡ true → is_formed numeric (with_functions owned later wanted) syntax ≡ true
  formed_wider numeric e =
      let all = both_true (nat_le 1 (length syntax.nonterminals) && nat_lt (length syntax.nonterminals) (2 ^ 31)) _ e in
      let each = both_true (list_all (is_known numeric) syntax.arguments) _ all.1 in
      and_true _ _ all.0 (and_true _ _ each.0 (list_all_wider _ _ (nonterminal_wider numeric) syntax.nonterminals each.1))
