-- The sorts of terms and of lists of terms, by what is found of their parts.
use Rattle.std.specs.Prelude.{ℕ, zero, suc, ◌+◌, ◌<◌, ◌≤◌, map, Bool, true, false, List, [], ◌∷◌, ◌++◌, ◌≡◌, refl, length, slice_get, Option, Some, None, if◌then◌else◌}
use Rattle.std.specs.Cmp.Lexicographic.{pointwise}
use Rattle.std.proofs.Common.{ap, sym, ◌∙◌, nat_eq, take, get_or}
use Rattle.std.proofs.lemmas.Option.{none-some, slice_get-get_or, slice_get-map, slice_get_past, slice_get_read}
use Rattle.std.proofs.lemmas.List.{take_more}
use Rattle.std.specs.declared.boxed.Box.{Box}
use Rattle.std.specs.declared.alloc.Global.{Global}
use Rattle.sy_terms.specs.Values.{Val}
use Rattle.sy_terms.specs.Sorts.{same_sort}
use Rattle.sy_terms.specs.Expr.{none}
use Rattle.sy_terms.specs.Denoted.{val_of, expr_of, exprs_of, expr_of-Const, expr_of-Var}
use Rattle.sy_terms.specs.Theories.{sort_of_value, valid}
use Rattle.sy_terms.specs.Fitting.{Scope, Signature, sort_in, sorts_in, with_sort, same_sorts, applied_sort, called_sort, signature_of}
use Rattle.sy_terms.specs.declared.op.Op.{Op}
use Rattle.sy_terms.specs.declared.sort.Sort.{Sort}
use Rattle.sy_terms.specs.declared.sort.Sort.TheVariants.{Bool as Truths, Int, Bits as Width}
use Rattle.sy_terms.specs.declared.sort.Value.{Value}
use Rattle.sy_terms.specs.declared.term.Fun.{Fun}
use Rattle.sy_terms.specs.declared.term.Term.{Term, Const, Var, App, Call, Let}
use Rattle.sy_terms.specs.declared.term.Terms.{Terms}
use Rattle.sy_terms_operators.proofs.Equations.{with_sort_Some}
use Rattle.sy_terms_operators.proofs.Steps.{app-is, call-is, let-is}

pub sorts_in-nil : (scope : Scope) (ts found : List Sort) → found ≡ [] → sorts_in scope ts none ≡ Some found
unfolding sorts_in
sorts_in-nil scope ts found e = rw e refl

-- the sorts of a list with one term more
pub sorts_in-last : {T N : Type 0} (number : N → Val) (scope : Scope) (ts : List Sort) (terms : List (Term T N)) (last : Term T N) (found : List Sort) (s : Sort) → sorts_in scope ts (exprs_of number terms) ≡ Some found → sort_in scope ts (expr_of number last) ≡ Some s → sorts_in scope ts (exprs_of number (terms ++ last ∷ [])) ≡ Some (found ++ s ∷ [])
unfolding sorts_in
sorts_in-last number scope ts [] last found s e h =
    let none_found : [] ≡ found = cc in
    rw (h, ← none_found) refl
sorts_in-last number scope ts (t ∷ terms) last found s e h =
    let parts = with_sort_Some (sort_in scope ts (expr_of number t)) (sorts_in scope ts (exprs_of number terms)) found e in
    rw (parts.first_is, sorts_in-last number scope ts terms last parts.sorts s parts.rest_is h) (ap (λ (all : List Sort). Some (all ++ s ∷ [])) parts.whole_is)

with_sort-none : (first : Option Sort) → with_sort first None ≡ None
with_sort-none None = refl
with_sort-none (Some s) = refl

-- one term without a sort spoils the list
pub sorts_in-none : {T N : Type 0} (number : N → Val) (scope : Scope) (ts : List Sort) (terms : List (Term T N)) (i : ℕ) (term : Term T N) → slice_get terms i ≡ Some term → sort_in scope ts (expr_of number term) ≡ None → sorts_in scope ts (exprs_of number terms) ≡ None
unfolding sorts_in
sorts_in-none number scope ts [] i term e h = absurd (none-some term e)
sorts_in-none number scope ts (t ∷ terms) zero term e h =
    let same : t ≡ term = cc in
    rw (same, h) refl
sorts_in-none number scope ts (t ∷ terms) (suc i) term e h =
    rw (sorts_in-none number scope ts terms i term e h) (with_sort-none (sort_in scope ts (expr_of number t)))

-- the same for one term more, by its place
pub sorts_in-next : {T N : Type 0} (number : N → Val) (scope : Scope) (ts : List Sort) (terms : List (Term T N)) (i : ℕ) (term : Term T N) (found : List Sort) (s : Sort) → i < length terms → term ≡ get_or terms i term → sorts_in scope ts (exprs_of number (take i terms)) ≡ Some found → sort_in scope ts (expr_of number term) ≡ Some s → sorts_in scope ts (exprs_of number (take (i + 1) terms)) ≡ Some (found ++ s ∷ [])
sorts_in-next number scope ts terms i term found s within is e h =
    rw (take_more terms i term within, ← is) (sorts_in-last number scope ts (take i terms) term found s e h)

pub sorts_in-without : {T N : Type 0} (number : N → Val) (scope : Scope) (ts : List Sort) (terms : List (Term T N)) (i : ℕ) (term : Term T N) → i < length terms → term ≡ get_or terms i term → None ≡ sort_in scope ts (expr_of number term) → None ≡ sorts_in scope ts (exprs_of number terms)
sorts_in-without number scope ts terms i term within is h =
    sym (sorts_in-none number scope ts terms i term (slice_get-get_or terms i term within ∙ ap Some (sym is)) (sym h))

-- the sort of a term, by what is found of its parts

pub sort-const : {T N : Type 0} (number : N → Val) (scope : Scope) (ts : List Sort) (term : Term T N) (value : Value N) → term ≡ Const value → (if valid (val_of number value) then Some (sort_of_value (val_of number value)) else None) ≡ sort_in scope ts (expr_of number term)
unfolding sort_in
sort-const number scope ts term value is = rw (is, expr_of-Const) refl

pub sort-var : {T N : Type 0} (number : N → Val) (scope : Scope) (ts : List Sort) (term : Term T N) (position : ℕ) → term ≡ Var position → slice_get ts position ≡ sort_in scope ts (expr_of number term)
unfolding sort_in
sort-var number scope ts term position is = rw (is, expr_of-Var) refl

pub sort-app : {T N : Type 0} (number : N → Val) (scope : Scope) (ts : List Sort) (term : Term T N) (operator : Op) (arguments : Terms T N) (found given : List Sort) → term ≡ App operator arguments → Some found ≡ sorts_in scope ts (exprs_of number arguments.items.items) → given ≡ found → applied_sort scope operator (Some given) ≡ sort_in scope ts (expr_of number term)
unfolding sort_in
sort-app number scope ts term operator arguments found given is sorts same = rw (app-is number term operator arguments is, ← sorts, same) refl

pub sort-app-none : {T N : Type 0} (number : N → Val) (scope : Scope) (ts : List Sort) (term : Term T N) (operator : Op) (arguments : Terms T N) → term ≡ App operator arguments → None ≡ sorts_in scope ts (exprs_of number arguments.items.items) → None ≡ sort_in scope ts (expr_of number term)
unfolding sort_in
sort-app-none number scope ts term operator arguments is sorts = rw (app-is number term operator arguments is, ← sorts) refl

pub sort-call : {T N : Type 0} (number : N → Val) (scope : Scope) (ts : List Sort) (term : Term T N) (function : Fun) (arguments : Terms T N) (found given : List Sort) → term ≡ Call function arguments → Some found ≡ sorts_in scope ts (exprs_of number arguments.items.items) → given ≡ found → called_sort (signature_of scope function) (Some given) ≡ sort_in scope ts (expr_of number term)
unfolding sort_in
sort-call number scope ts term function arguments found given is sorts same = rw (call-is number term function arguments is, ← sorts, same) refl

called-none : (signature : Option Signature) → None ≡ called_sort signature None
called-none None = refl
called-none (Some f) = refl

pub sort-call-none : {T N : Type 0} (number : N → Val) (scope : Scope) (ts : List Sort) (term : Term T N) (function : Fun) (arguments : Terms T N) → term ≡ Call function arguments → None ≡ sorts_in scope ts (exprs_of number arguments.items.items) → None ≡ sort_in scope ts (expr_of number term)
unfolding sort_in
sort-call-none number scope ts term function arguments is sorts = rw (call-is number term function arguments is, ← sorts) (called-none (signature_of scope function))

pub sort-let : {T N : Type 0} (number : N → Val) (scope : Scope) (ts : List Sort) (term : Term T N) (bound : Terms T N) (inner : Box (Term T N) Global) (found longer : List Sort) (held : Term T N) → term ≡ Let bound inner → Some found ≡ sorts_in scope ts (exprs_of number bound.items.items) → longer ≡ ts ++ found → held ≡ inner.value → sort_in scope longer (expr_of number held) ≡ sort_in scope ts (expr_of number term)
unfolding sort_in
sort-let number scope ts term bound inner found longer held is sorts joined same = rw (let-is number term bound inner is, ← sorts, joined, same) refl

pub sort-let-none : {T N : Type 0} (number : N → Val) (scope : Scope) (ts : List Sort) (term : Term T N) (bound : Terms T N) (inner : Box (Term T N) Global) → term ≡ Let bound inner → None ≡ sorts_in scope ts (exprs_of number bound.items.items) → None ≡ sort_in scope ts (expr_of number term)
unfolding sort_in
sort-let-none number scope ts term bound inner is sorts = rw (let-is number term bound inner is, ← sorts) refl

-- a comparison of lists by one of sorts
pub pointwise_same : (equal : Sort → Sort → Bool) →
    (equal Truths Truths ≡ true) →
    (equal Int Int ≡ true) →
    ((v w : ℕ) → equal (Width v) (Width w) ≡ nat_eq v w) →
    (equal Truths Int ≡ false) →
    (equal Int Truths ≡ false) →
    ((w : ℕ) → equal Truths (Width w) ≡ false) →
    ((w : ℕ) → equal (Width w) Truths ≡ false) →
    ((w : ℕ) → equal Int (Width w) ≡ false) →
    ((w : ℕ) → equal (Width w) Int ≡ false) →
    (ss ts : List Sort) → pointwise equal ss ts ≡ same_sorts ss ts
pointwise_same equal tt' ii ww ti it tw wt iw wi = lists
  where
    sorts : (s t : Sort) → equal s t ≡ same_sort s t
    sorts Truths Truths = tt'
    sorts Int Int = ii
    sorts (Width v) (Width w) = ww v w
    sorts Truths Int = ti
    sorts Int Truths = it
    sorts Truths (Width w) = tw w
    sorts (Width w) Truths = wt w
    sorts Int (Width w) = iw w
    sorts (Width w) Int = wi w

    lists : (ss ts : List Sort) → pointwise equal ss ts ≡ same_sorts ss ts
    lists [] [] = refl
    lists [] (t ∷ ts) = refl
    lists (s ∷ ss) [] = refl
    lists (s ∷ ss) (t ∷ ts) = rw (sorts s t, lists ss ts) refl

-- ---- the signatures that functions have by their numbers
pub called-past : {X : Type 0} (signed : X → Signature) (all : List X) (number : ℕ) (ts : List Sort) → length all ≤ number → called_sort (slice_get (map signed all) number) (Some ts) ≡ None
called-past signed all number ts past = rw (slice_get-map signed all number, slice_get_past all number past) refl

pub called-within : {X : Type 0} (signed : X → Signature) (all : List X) (number : ℕ) (x : X) (ts : List Sort) → number < length all → x ≡ get_or all number x → called_sort (slice_get (map signed all) number) (Some ts) ≡ (if same_sorts ts (signed x).takes then Some (signed x).gives else None)
called-within signed all number x ts within is = rw (slice_get-map signed all number, slice_get_read all (length all) number x refl within is) refl
