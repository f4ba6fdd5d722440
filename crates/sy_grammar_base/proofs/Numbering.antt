-- A well-formed grammar has fewer than 2 ^ 31 nonterminals and rules.
use Rattle.std.proofs.Common.{◌≡◌, ℕ, zero, suc, List, [], ◌∷◌, length, Some, slice_get, Bool, true, ◌&&◌, nat_le}
use Rattle.std.specs.Prelude.{◌^◌, nat_lt}
use Rattle.std.specs.List.{list_all}
use Rattle.std.proofs.lemmas.Bool.{ltb-true}
use Rattle.sy_terms.specs.Fitting.{Scope}
use Rattle.sy_terms.specs.declared.sort.Sort.{Sort}
use Rattle.sy_terms_operators.proofs.Equations.{both_true}
use Rattle.sy_grammar_base.specs.Trees.{Syntax, IsNumbered, is_sort}
use Rattle.sy_grammar_base.specs.Formed.{is_known, is_formed, nonterminal_fits, rule_sort}

pub all_at : {A : Type 0} (p : A → Bool) (xs : List A) (k : ℕ) (x : A) → list_all p xs ≡ true → slice_get xs k ≡ Some x → p x ≡ true
all_at p [] k x all at = absurd cc
all_at p (y ∷ xs) zero x all at = let same : y ≡ x = cc in let first = (both_true (p y) (list_all p xs) all).0 in cc
all_at p (y ∷ xs) (suc k) x all at = all_at p xs k x (both_true (p y) (list_all p xs) all).1 at

pub numbered : (numeric : Sort → Bool) (scope : Scope) (syntax : Syntax) → is_formed numeric scope syntax ≡ true → IsNumbered syntax
numbered numeric scope syntax formed =
    let counts = both_true (nat_le 1 (length syntax.nonterminals) && nat_lt (length syntax.nonterminals) (2 ^ 31)) (list_all (is_known numeric) syntax.arguments && list_all (nonterminal_fits numeric scope syntax) syntax.nonterminals) formed in
    let few = both_true (nat_le 1 (length syntax.nonterminals)) (nat_lt (length syntax.nonterminals) (2 ^ 31)) counts.0 in
    let fit = both_true (list_all (is_known numeric) syntax.arguments) (list_all (nonterminal_fits numeric scope syntax) syntax.nonterminals) counts.1 in
    record {
      nonterminals = ltb-true (length syntax.nonterminals) (2 ^ 31) few.1;
      rules = λ place nonterminal at.
          let it = all_at (nonterminal_fits numeric scope syntax) syntax.nonterminals place nonterminal fit.1 at in
          let sized = both_true (is_known numeric nonterminal.sort) (nat_lt (length nonterminal.rules) (2 ^ 31) && list_all (λ rule. is_sort nonterminal.sort (rule_sort scope syntax rule)) nonterminal.rules) it in
          let short = both_true (nat_lt (length nonterminal.rules) (2 ^ 31)) (list_all (λ rule. is_sort nonterminal.sort (rule_sort scope syntax rule)) nonterminal.rules) sized.1 in
          ltb-true (length nonterminal.rules) (2 ^ 31) short.0;
    }
