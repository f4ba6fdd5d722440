-- A trace that has gained calls has these, those before them, and no others.
use Rattle.std.proofs.Common.{◌≡◌, ◌++◌, ⊎_elim, inl, inr, refl, sym, subst, ℕ, Bool, true, false, List, [], ◌∷◌, nat_eq, arith}
use Rattle.std.specs.Prelude.{◌&&◌, ◌||◌, ◌⊎◌}
use Rattle.std.specs.List.{Contains}
use Rattle.std.proofs.lemmas.List.Elements.{Contains-push, Contains-push_cases, Contains-append_left, Contains-append_right, Contains-append_cases}
use mathlib.Core.Bool.{true≢false}
use Rattle.sy_terms.specs.Values.{Val}
use Rattle.sy_terms_operators.specs.Tracing.{same_values, has_call, traced, traced_all, GainsCalls}
use Rattle.sy_terms_operators.proofs.Equations.{both_true}
use Rattle.sy_terms_operators.proofs.Traced.{same_values_is}

pub here : {X : Type 0} (x : X) (xs : List X) → Contains (x ∷ xs) x
here x xs = Contains-append_left (x ∷ []) xs x (Contains-push [] x)

pub there : {X : Type 0} (y : X) (xs : List X) (x : X) → Contains xs x → Contains (y ∷ xs) x
there y xs x at = Contains-append_right (y ∷ []) xs x at

pub no_element : {X : Type 0} (x : X) → Contains [] x → ⊥
no_element x at = omega (arith, at.1)

pub first_or_later : {X : Type 0} (y : X) (xs : List X) (x : X) → Contains (y ∷ xs) x → (y ≡ x) ⊎ Contains xs x
first_or_later y xs x at = ⊎_elim
    (λ (first : Contains (y ∷ []) x). ⊎_elim (λ (none : Contains [] x). absurd (no_element x none)) (λ (same : y ≡ x). inl same) (Contains-push_cases [] y x first))
    (λ (later : Contains xs x). inr later)
    (Contains-append_cases (y ∷ []) xs x at)

has_it : (first : ℕ × List Val) (calls : List (ℕ × List Val)) (function : ℕ) (values : List Val) (b : Bool) → (nat_eq first.0 function && same_values first.1 values) ≡ b →
    (has_call calls function values ≡ true → Contains calls (function, values)) → (b || has_call calls function values) ≡ true → Contains (first ∷ calls) (function, values)
has_it first calls function values true is later e =
    let both = both_true (nat_eq first.0 function) (same_values first.1 values) is in
    let number : first.0 ≡ function = grind (arith, both.0) in
    let tuple : first.1 ≡ values = same_values_is first.1 values both.1 in
    let same : first ≡ (function, values) = λ i. (number i, tuple i) in
    subst (λ call. Contains (first ∷ calls) call) same (here first calls)
has_it first calls function values false is later e = there first calls (function, values) (later e)

-- a call that is found is there
pub found_call : (calls : List (ℕ × List Val)) (function : ℕ) (values : List Val) → has_call calls function values ≡ true → Contains calls (function, values)
found_call [] function values e = absurd (true≢false (sym e))
found_call (first ∷ calls) function values e =
    has_it first calls function values (nat_eq first.0 function && same_values first.1 values) refl (found_call calls function values) e

-- a trace after one call
traced_by : (calls : List (ℕ × List Val)) (call : ℕ × List Val) (b : Bool) → has_call calls call.0 call.1 ≡ b → (traced calls call ≡ calls) × Contains calls call ⊎ (traced calls call ≡ calls ++ call ∷ [])
traced_by calls call true e = inl (rw e refl, found_call calls call.0 call.1 e)
traced_by calls call false e = inr (rw e refl)

pub traced_there : (calls : List (ℕ × List Val)) (call : ℕ × List Val) → Contains (traced calls call) call
traced_there calls call = ⊎_elim
    (λ (old : (traced calls call ≡ calls) × Contains calls call). subst (λ all. Contains all call) (sym old.0) old.1)
    (λ (new : traced calls call ≡ calls ++ call ∷ []). subst (λ all. Contains all call) (sym new) (Contains-push calls call))
    (traced_by calls call (has_call calls call.0 call.1) refl)

pub traced_keeps : (calls : List (ℕ × List Val)) (call other : ℕ × List Val) → Contains calls other → Contains (traced calls call) other
traced_keeps calls call other at = ⊎_elim
    (λ (old : (traced calls call ≡ calls) × Contains calls call). subst (λ all. Contains all other) (sym old.0) at)
    (λ (new : traced calls call ≡ calls ++ call ∷ []). subst (λ all. Contains all other) (sym new) (Contains-append_left calls (call ∷ []) other at))
    (traced_by calls call (has_call calls call.0 call.1) refl)

pub traced_only : (calls : List (ℕ × List Val)) (call other : ℕ × List Val) → Contains (traced calls call) other → Contains calls other ⊎ (call ≡ other)
traced_only calls call other at = ⊎_elim
    (λ (old : (traced calls call ≡ calls) × Contains calls call). inl (subst (λ all. Contains all other) old.0 at))
    (λ (new : traced calls call ≡ calls ++ call ∷ []). Contains-push_cases calls call other (subst (λ all. Contains all other) new at))
    (traced_by calls call (has_call calls call.0 call.1) refl)

-- a trace after several
all_keeps : (before asked : List (ℕ × List Val)) (other : ℕ × List Val) → Contains before other → Contains (traced_all before asked) other
all_keeps before [] other at = at
all_keeps before (call ∷ asked) other at = all_keeps (traced before call) asked other (traced_keeps before call other at)

pub all_there : (before asked : List (ℕ × List Val)) (other : ℕ × List Val) → Contains asked other → Contains (traced_all before asked) other
all_there before [] other at = absurd (no_element other at)
all_there before (call ∷ asked) other at = ⊎_elim
    (λ (same : call ≡ other). all_keeps (traced before call) asked other (subst (λ c. Contains (traced before call) c) same (traced_there before call)))
    (λ (later : Contains asked other). all_there (traced before call) asked other later)
    (first_or_later call asked other at)

all_only : (before asked : List (ℕ × List Val)) (other : ℕ × List Val) → Contains (traced_all before asked) other → Contains before other ⊎ Contains asked other
all_only before [] other at = inl at
all_only before (call ∷ asked) other at = ⊎_elim
    (λ (old : Contains (traced before call) other). ⊎_elim
    (λ (kept : Contains before other). inl kept)
    (λ (same : call ≡ other). inr (subst (λ c. Contains (call ∷ asked) c) same (here call asked)))
    (traced_only before call other old))
    (λ (new : Contains asked other). inr (there call asked other new))
    (all_only (traced before call) asked other at)

-- from nothing, a trace gains the calls that are asked and no others
pub gained_all : (asked after : List (ℕ × List Val)) → GainsCalls [] asked after → (call : ℕ × List Val) → Contains asked call → Contains after call
gained_all asked after gains call at = subst (λ all. Contains all call) (sym gains.is) (all_there [] asked call at)

pub gained_only : (asked after : List (ℕ × List Val)) → GainsCalls [] asked after → (call : ℕ × List Val) → Contains after call → Contains asked call
gained_only asked after gains call at = ⊎_elim
    (λ (none : Contains [] call). absurd (no_element call none))
    (λ (new : Contains asked call). new)
    (all_only [] asked call (subst (λ all. Contains all call) gains.is at))
