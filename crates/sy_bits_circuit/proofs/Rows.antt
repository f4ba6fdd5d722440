-- What is known of a list of terms, term by term.
use Rattle.std.specs.Prelude.{ℕ, ◌+◌, ◌≤◌, ◌<◌, ◌≡◌, List, [], ◌∷◌, ◌++◌, refl, Some, length}
use Rattle.std.proofs.Common.{arith, ap, sym, ◌∙◌, subst, get_or, take, zero, suc}
use Rattle.std.proofs.lemmas.List.{take_more}
use Rattle.sy_terms.specs.Values.{Val}
use Rattle.sy_terms.specs.Expr.{none, more}
use Rattle.sy_terms.specs.Denoted.{expr_of, exprs_of}
use Rattle.sy_terms.specs.Fitting.{sort_in, sorts_in}
use Rattle.sy_terms.specs.Meaning.{meaning, meanings}
use Rattle.sy_terms.specs.declared.sort.Sort.{Sort}
use Rattle.sy_terms.specs.declared.term.Term.{Term}
use Rattle.sy_query_base.specs.Weights.{weight, weights}
use Rattle.sy_terms_operators.proofs.Equations.{with_sort_Some}
use Rattle.sy_bits_circuit.specs.Fitting.{scope, TermHasSort, HaveSorts, most_gates, all_most_gates}

-- one term at the end

sorts-last : {T N : Type 0} (number : N → Val) (ts : List Sort) (terms : List (Term T N)) (last : Term T N) (found : List Sort) (s : Sort) → sorts_in scope ts (exprs_of number terms) ≡ Some found → sort_in scope ts (expr_of number last) ≡ Some s → sorts_in scope ts (exprs_of number (terms ++ last ∷ [])) ≡ Some (found ++ s ∷ [])
unfolding sorts_in
sorts-last number ts [] last found s e h =
    let none_found : [] ≡ found = cc in
    rw (h, ← none_found) refl
sorts-last number ts (t ∷ terms) last found s e h =
    let parts = with_sort_Some (sort_in scope ts (expr_of number t)) (sorts_in scope ts (exprs_of number terms)) found e in
    rw (parts.first_is, sorts-last number ts terms last parts.sorts s parts.rest_is h) (ap (λ (all : List Sort). Some (all ++ s ∷ [])) parts.whole_is)

weights-last : {T N : Type 0} (number : N → Val) (ts : List Sort) (terms : List (Term T N)) (last : Term T N) → weights scope ts (exprs_of number (terms ++ last ∷ [])) ≡ weights scope ts (exprs_of number terms) + weight scope ts (expr_of number last)
unfolding weights
weights-last number ts [] last = omega arith
weights-last number ts (t ∷ terms) last = omega (arith, weights-last number ts terms last)

meanings-last : {T N : Type 0} (number : N → Val) (values : List Val) (terms : List (Term T N)) (last : Term T N) → meanings [] [] values (exprs_of number (terms ++ last ∷ [])) ≡ meanings [] [] values (exprs_of number terms) ++ meaning [] [] values (expr_of number last) ∷ []
unfolding meanings
meanings-last number values [] last = refl
meanings-last number values (t ∷ terms) last = ap (λ (rest : List Val). meaning [] [] values (expr_of number t) ∷ rest) (meanings-last number values terms last)

-- the first terms, and the next

next : {T N : Type 0} (terms : List (Term T N)) (i : ℕ) (term : Term T N) → i < length terms → term ≡ get_or terms i term → take (i + 1) terms ≡ take i terms ++ term ∷ []
next terms i term h e = take_more terms i term h ∙ ap (λ t. take i terms ++ t ∷ []) (sym e)

pub sorts-more : {T N : Type 0} (number : N → Val) (ts : List Sort) (terms : List (Term T N)) (i : ℕ) (term : Term T N) (found : List Sort) (s : Sort) → i < length terms → term ≡ get_or terms i term → sorts_in scope ts (exprs_of number (take i terms)) ≡ Some found → sort_in scope ts (expr_of number term) ≡ Some s → sorts_in scope ts (exprs_of number (take (i + 1) terms)) ≡ Some (found ++ s ∷ [])
sorts-more number ts terms i term found s h e f g = ap (λ xs. sorts_in scope ts (exprs_of number xs)) (next terms i term h e) ∙ sorts-last number ts (take i terms) term found s f g

pub weights-more : {T N : Type 0} (number : N → Val) (ts : List Sort) (terms : List (Term T N)) (i : ℕ) (term : Term T N) → i < length terms → term ≡ get_or terms i term → weights scope ts (exprs_of number (take (i + 1) terms)) ≡ weights scope ts (exprs_of number (take i terms)) + weight scope ts (expr_of number term)
weights-more number ts terms i term h e = ap (λ xs. weights scope ts (exprs_of number xs)) (next terms i term h e) ∙ weights-last number ts (take i terms) term

pub meanings-more : {T N : Type 0} (number : N → Val) (values : List Val) (terms : List (Term T N)) (i : ℕ) (term : Term T N) → i < length terms → term ≡ get_or terms i term → meanings [] [] values (exprs_of number (take (i + 1) terms)) ≡ meanings [] [] values (exprs_of number (take i terms)) ++ meaning [] [] values (expr_of number term) ∷ []
meanings-more number values terms i term h e = ap (λ xs. meanings [] [] values (exprs_of number xs)) (next terms i term h e) ∙ meanings-last number values (take i terms) term

-- one of the terms

weight-within : {T N : Type 0} (number : N → Val) (ts : List Sort) (terms : List (Term T N)) (i : ℕ) (d : Term T N) → i < length terms → weights scope ts (exprs_of number (take i terms)) + weight scope ts (expr_of number (get_or terms i d)) ≤ weights scope ts (exprs_of number terms)
unfolding weights
weight-within number ts [] i d h = absurd (omega arith)
weight-within number ts (t ∷ terms) zero d h = omega arith
weight-within number ts (t ∷ terms) (suc i) d h = omega (arith, weight-within number ts terms i d (omega arith))

pub weights-within : {T N : Type 0} (number : N → Val) (ts : List Sort) (terms : List (Term T N)) (i : ℕ) (term : Term T N) → i < length terms → term ≡ get_or terms i term → weights scope ts (exprs_of number (take i terms)) + weight scope ts (expr_of number term) ≤ weights scope ts (exprs_of number terms)
weights-within number ts terms i term h e =
    let w = weight-within number ts terms i term h in
    let same : weight scope ts (expr_of number term) ≡ weight scope ts (expr_of number (get_or terms i term)) = ap (λ t. weight scope ts (expr_of number t)) e in
    omega (arith, w, same)

fit-within : {T N : Type 0} (number : N → Val) (ts : List Sort) (terms : List (Term T N)) (i : ℕ) (d : Term T N) → i < length terms → HaveSorts ts (exprs_of number terms) → TermHasSort ts (expr_of number (get_or terms i d))
unfolding sorts_in
fit-within number ts [] i d h fit = absurd (omega arith)
fit-within number ts (t ∷ terms) zero d h fit =
    let parts = with_sort_Some (sort_in scope ts (expr_of number t)) (sorts_in scope ts (exprs_of number terms)) fit.found fit.are in
    record { sort = parts.sort; is = parts.first_is }
fit-within number ts (t ∷ terms) (suc i) d h fit =
    let parts = with_sort_Some (sort_in scope ts (expr_of number t)) (sorts_in scope ts (exprs_of number terms)) fit.found fit.are in
    fit-within number ts terms i d (omega arith) (record { found = parts.sorts; are = parts.rest_is })

pub fits-at : {T N : Type 0} (number : N → Val) (ts : List Sort) (terms : List (Term T N)) (i : ℕ) (term : Term T N) → i < length terms → term ≡ get_or terms i term → HaveSorts ts (exprs_of number terms) → TermHasSort ts (expr_of number term)
fits-at {T} {N} number ts terms i term h e fit = subst (λ (t : Term T N). TermHasSort ts (expr_of number t)) (sym e) (fit-within number ts terms i term h fit)

pub term-room : {T N : Type 0} (number : N → Val) (ts : List Sort) (terms : List (Term T N)) (i : ℕ) (term : Term T N) (old now width most : ℕ) → i < length terms → term ≡ get_or terms i term → now + width ≤ old + all_most_gates ts (exprs_of number (take i terms)) → old + all_most_gates ts (exprs_of number terms) < most → now + most_gates ts (expr_of number term) < most
term-room number ts terms i term old now width most h e k l = let w = weights-within number ts terms i term h e in omega (arith, w, k, l)

pub row-cost : {T N : Type 0} (number : N → Val) (ts : List Sort) (terms : List (Term T N)) (i : ℕ) (term : Term T N) (old now new width one : ℕ) → i < length terms → term ≡ get_or terms i term → now + width ≤ old + all_most_gates ts (exprs_of number (take i terms)) → new + one ≤ now + most_gates ts (expr_of number term) → new + (width + one) ≤ old + all_most_gates ts (exprs_of number (take (i + 1) terms))
row-cost number ts terms i term old now new width one h e k l = let w = weights-more number ts terms i term h e in omega (arith, w, k, l)

pub none-sorts : (T : Type 0) {N : Type 0} (number : N → Val) (ts : List Sort) → let terms : List (Term T N) = [] in sorts_in scope ts (exprs_of number terms) ≡ Some []
unfolding sorts_in
none-sorts T number ts = refl

pub none-meanings : (T : Type 0) {N : Type 0} (number : N → Val) (values : List Val) → let terms : List (Term T N) = [] in [] ≡ meanings [] [] values (exprs_of number terms)
unfolding meanings
none-meanings T number values = refl
