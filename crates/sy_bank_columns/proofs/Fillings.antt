-- Lists of patterns filled with chosen terms, one by one.
use Rattle.std.proofs.Common.{◌≡◌, ℕ, zero, suc, ◌+◌, ◌<◌, ◌≤◌, get_or, List, [], ◌∷◌, ◌++◌, length, take, drop, refl, ap, sym, ◌∙◌, Some, slice_get, arith, length-append, subst, Bool, true, false, ◌&&◌}
use Rattle.std.proofs.lemmas.List.{drop-drop}
use denote.Ref.{Bor}
use Rattle.std.proofs.lemmas.Option.{none-some}
use Rattle.sy_terms.specs.Values.{Val}
use Rattle.sy_terms.specs.Expr.{Expr}
use Rattle.sy_terms.specs.Fitting.{Scope, sort_in, sorts_in}
use Rattle.sy_terms.specs.Meaning.{Function, computable, all_computable}
use Rattle.sy_terms.specs.declared.sort.Sort.{Sort}
use Rattle.sy_terms_operators.proofs.Equations.{with_sort_Some}
use Rattle.sy_grammar_base.specs.Patterns.{occurring, all_occurring, filled, all_filled, first_of}
use Rattle.sy_grammar_base.specs.Written.{pattern_of, patterns_of}
use Rattle.sy_grammar_base.specs.declared.part.Part.{Part}
use Rattle.sy_bank_level.specs.Covering as covering
use Rattle.sy_bank_level.specs.Shared.{term_from}
use Rattle.sy_bank_level.specs.declared.kept.Kept.{Kept}
use Rattle.sy_bank_level.proofs.Fillings.{filled-take, occurring-next}
use Rattle.sy_bank_level.specs.Stored.{chosen_of}

-- one pattern of a list fits where the list does
pub fits-at : {T N : Type 0} (number : N → Val) (scope : Scope) (ss : List Sort) (parts : List (Part T N)) (i : ℕ) (part : Part T N) (terms : List Expr) (sorts : List Sort) →
    slice_get parts i ≡ Some part → sorts_in scope ss (all_filled (patterns_of number parts) terms) ≡ Some sorts →
    (sort : Sort) × (sort_in scope ss (filled (pattern_of number part) (drop (length (all_occurring (patterns_of number (take i parts)))) terms)) ≡ Some sort)
unfolding all_filled sorts_in
fits-at number scope ss [] i part terms sorts at fit = absurd (none-some part at)
fits-at {T} {N} number scope ss (first ∷ parts) zero part terms sorts at fit =
    let found = with_sort_Some (sort_in scope ss (filled (pattern_of number first) (take (length (occurring (pattern_of number first))) terms))) (sorts_in scope ss (all_filled (patterns_of number parts) (drop (length (occurring (pattern_of number first))) terms))) sorts fit in
    let same : first ≡ part = cc in
    let here : sort_in scope ss (filled (pattern_of number first) terms) ≡ Some found.sort = ap (sort_in scope ss) (sym (filled-take (pattern_of number first) terms)) ∙ found.first_is in
    (found.sort, subst (λ (p : Part T N). sort_in scope ss (filled (pattern_of number p) terms) ≡ Some found.sort) same here)
fits-at number scope ss (first ∷ parts) (suc i) part terms sorts at fit =
    let n = length (occurring (pattern_of number first)) in
    let m = length (all_occurring (patterns_of number (take i parts))) in
    let found = with_sort_Some (sort_in scope ss (filled (pattern_of number first) (take n terms))) (sorts_in scope ss (all_filled (patterns_of number parts) (drop n terms))) sorts fit in
    let there = fits-at number scope ss parts i part (drop n terms) found.sorts at found.rest_is in
    let both : length (occurring (pattern_of number first) ++ all_occurring (patterns_of number (take i parts))) ≡ n + m = length-append (occurring (pattern_of number first)) (all_occurring (patterns_of number (take i parts))) in
    let left : drop m (drop n terms) ≡ drop (length (occurring (pattern_of number first) ++ all_occurring (patterns_of number (take i parts)))) terms = drop-drop m n terms ∙ ap (λ k. drop k terms) (sym both) in
    (there.0, ap (λ ts. sort_in scope ss (filled (pattern_of number part) ts)) (sym left) ∙ there.1)

false_right : (a : Bool) → (a && false) ≡ false
false_right true = refl
false_right false = refl

-- one pattern of a list that isn't computable spoils it
pub lost-at : {T N : Type 0} (number : N → Val) (defined : List Function) (values : List Val) (parts : List (Part T N)) (i : ℕ) (part : Part T N) (terms : List Expr) →
    slice_get parts i ≡ Some part → computable defined [] values (filled (pattern_of number part) (drop (length (all_occurring (patterns_of number (take i parts)))) terms)) ≡ false →
    all_computable defined [] values (all_filled (patterns_of number parts) terms) ≡ false
unfolding all_filled all_computable
lost-at number defined values [] i part terms at lost = absurd (none-some part at)
lost-at {T} {N} number defined values (first ∷ parts) zero part terms at lost =
    let same : part ≡ first = cc in
    let here : computable defined [] values (filled (pattern_of number first) terms) ≡ false = subst (λ (p : Part T N). computable defined [] values (filled (pattern_of number p) terms) ≡ false) same lost in
    rw (filled-take (pattern_of number first) terms, here) refl
lost-at number defined values (first ∷ parts) (suc i) part terms at lost =
    let n = length (occurring (pattern_of number first)) in
    let m = length (all_occurring (patterns_of number (take i parts))) in
    let both : length (occurring (pattern_of number first) ++ all_occurring (patterns_of number (take i parts))) ≡ n + m = length-append (occurring (pattern_of number first)) (all_occurring (patterns_of number (take i parts))) in
    let left : drop m (drop n terms) ≡ drop (length (occurring (pattern_of number first) ++ all_occurring (patterns_of number (take i parts)))) terms = drop-drop m n terms ∙ ap (λ k. drop k terms) (sym both) in
    let there = lost-at number defined values parts i part (drop n terms) at (ap (λ ts. computable defined [] values (filled (pattern_of number part) ts)) left ∙ lost) in
    rw there (false_right (computable defined [] values (filled (pattern_of number first) (take n terms))))

-- the first of the chosen terms, and the chosen terms from one on
pub first-chosen : {T N : Type 0} (number : N → Val) (chosen : List (Bor (Kept T N))) (d : Bor (Kept T N)) → 0 < length chosen → first_of (covering.terms (chosen_of number chosen)) ≡ term_from number (get_or chosen 0 d).now.grown.value
first-chosen number [] d some = absurd (omega arith)
first-chosen number (first ∷ chosen) d some = refl

pub chosen-from : {T N : Type 0} (number : N → Val) (n : ℕ) (chosen : List (Bor (Kept T N))) → covering.terms (chosen_of number (drop n chosen)) ≡ drop n (covering.terms (chosen_of number chosen))
chosen-from number zero chosen = refl
chosen-from number (suc n) [] = refl
chosen-from number (suc n) (first ∷ chosen) = chosen-from number n chosen

occurring-some : {T N : Type 0} (number : N → Val) (parts : List (Part T N)) (i : ℕ) → length (all_occurring (patterns_of number (take i parts))) ≤ length (all_occurring (patterns_of number parts))
occurring-some number [] zero = omega arith
occurring-some number [] (suc i) = omega arith
occurring-some number (part ∷ parts) zero = omega arith
occurring-some number (part ∷ parts) (suc i) = omega (arith, occurring-some number parts i, length-append (occurring (pattern_of number part)) (all_occurring (patterns_of number (take i parts))), length-append (occurring (pattern_of number part)) (all_occurring (patterns_of number parts)))

-- enough terms are left for the next part
pub enough-left : {T N : Type 0} (number : N → Val) (parts : List (Part T N)) (i : ℕ) (part : Part T N) (used count : ℕ) → i < length parts → part ≡ get_or parts i part → used ≡ length (all_occurring (patterns_of number (take i parts))) →
    length (all_occurring (patterns_of number parts)) ≤ count → used + length (occurring (pattern_of number part)) ≤ count
enough-left number parts i part used count within is at enough = omega (arith, occurring-next number parts i part within is, occurring-some number parts (i + 1), at, enough)
