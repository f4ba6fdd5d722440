-- Clauses that are each new to those before them are different sets, so over so many variables there
-- are fewer than 3 to that power.
use Rattle.std.proofs.Common.{◌≡◌, ℕ, zero, suc, ◌+◌, ◌-◌, ◌*◌, ◌^◌, ◌<◌, ◌≤◌, Bool, true, false, not, List, length, refl, sym, ap, ◌∙◌, subst, arith, inl, inr, ◌⊎◌, ⊎_elim, Some, None}
use Rattle.std.specs.Prelude.{slice_get, slice_index_or}
use Rattle.std.proofs.Math.Nat.{pow-succ'}
use Rattle.std.proofs.lemmas.Option.{slice_get-get_or}
use Rattle.sy_clauses.specs.Clauses.{Clause, same_literal}
use Rattle.sy_clauses.specs.New.{Partial, IsUnit, ClauseIsSettled, EachNew}
use Rattle.sy_clauses.proofs.Sets.{literal_is, same_self}
use Rattle.sy_cdcl.specs.Trails.{VarsBelow}
use Rattle.sy_cdcl.proofs.Back.{get_in_taken}
use Rattle.sy_cdcl.proofs.Pigeons.{pigeonhole}

digit : Bool → Bool → ℕ
digit true n = 1
digit false true = 2
digit false false = 0

-- a clause over the variables below a number, in base 3
code : Clause → ℕ → ℕ
code c zero = 0
code c (suc n) = 3 * code c n + digit (c n true) (c n false)

digit-lt : (p n : Bool) → digit p n < 3
unfolding digit
digit-lt true n = omega arith
digit-lt false true = omega arith
digit-lt false false = omega arith

code-lt : (c : Clause) (n : ℕ) → code c n < 3 ^ n
unfolding code
code-lt c zero = omega arith
code-lt c (suc n) = omega (arith, code-lt c n, digit-lt (c n true) (c n false), pow-succ' 3 n)

-- no variable is in the clause with both signs
abbrev IsProper : Clause → Type 0
IsProper c = (v : ℕ) → c v true ≡ true → c v false ≡ true → ⊥

same_digits : (p n q m : Bool) → (p ≡ true → n ≡ true → ⊥) → (q ≡ true → m ≡ true → ⊥) →
    digit p n ≡ digit q m → (p ≡ q) × (n ≡ m)
unfolding digit
same_digits true true q m f g e = absurd (f refl refl)
same_digits true false true true f g e = absurd (g refl refl)
same_digits true false true false f g e = (refl, refl)
same_digits true false false true f g e = absurd (omega arith)
same_digits true false false false f g e = absurd (omega arith)
same_digits false true true m f g e = absurd (omega arith)
same_digits false true false true f g e = (refl, refl)
same_digits false true false false f g e = absurd (omega arith)
same_digits false false true m f g e = absurd (omega arith)
same_digits false false false true f g e = absurd (omega arith)
same_digits false false false false f g e = (refl, refl)

at_sign : (c d : Clause) (v : ℕ) → (c v true ≡ d v true) × (c v false ≡ d v false) → (s : Bool) → c v s ≡ d v s
at_sign c d v h true = h.0
at_sign c d v h false = h.1

last_or : (v n : ℕ) → v < suc n → (v ≡ n) ⊎ (v < n)
last_or v n h = grind arith

same_code : (c d : Clause) (n : ℕ) → IsProper c → IsProper d → code c n ≡ code d n → (v : ℕ) (s : Bool) → v < n → c v s ≡ d v s
unfolding code
same_code c d zero f g e v s h = absurd (omega arith)
same_code c d (suc n) f g e v s h =
    let x = digit-lt (c n true) (c n false) in
    let y = digit-lt (d n true) (d n false) in
    let front : code c n ≡ code d n = omega arith in
    let last : digit (c n true) (c n false) ≡ digit (d n true) (d n false) = omega arith in
    ⊎_elim
    (λ (q : v ≡ n). subst (λ (w : ℕ). c w s ≡ d w s) (sym q)
    (at_sign c d n (same_digits (c n true) (c n false) (d n true) (d n false) (f n) (g n) last) s))
    (λ (q : v < n). same_code c d n f g front v s q)
    (last_or v n h)

digit_positive : (p n s : Bool) → (s ≡ true → p ≡ true) → (s ≡ false → n ≡ true) → 0 < digit p n
unfolding digit
digit_positive true n s f g = omega arith
digit_positive false true s f g = omega arith
digit_positive false false true f g = cc (f refl)
digit_positive false false false f g = cc (g refl)

code_positive : (c : Clause) (n v : ℕ) (s : Bool) → c v s ≡ true → v < n → 0 < code c n
unfolding code
code_positive c zero v s h l = absurd (omega arith)
code_positive c (suc n) v s h l =
    ⊎_elim
    (λ (q : v ≡ n).
    let here = subst (λ (w : ℕ). c w s ≡ true) q h in
    let d = digit_positive (c n true) (c n false) s
    (λ e. subst (λ (b : Bool). c n b ≡ true) e here) (λ e. subst (λ (b : Bool). c n b ≡ true) e here) in
    omega arith)
    (λ (q : v < n). omega (arith, code_positive c n v s h q))
    (last_or v n l)

bool_cases : (b : Bool) → (b ≡ true) ⊎ (b ≡ false)
bool_cases true = inl refl
bool_cases false = inr refl

own_sign : (b : Bool) → b ≡ not b → ⊥
own_sign true h = cc
own_sign false h = cc

some_is : {A : Type 0} {x y : A} → Some x ≡ Some y → x ≡ y
some_is e = cc

-- a literal of a unit clause is false, or it is the last one, without value
unit_literal : (values : Partial) (c : Clause) (var : ℕ) (positive : Bool) → IsUnit values c var positive →
    (v : ℕ) (s : Bool) → c v s ≡ true →
    (values v ≡ Some (not s)) ⊎ ((values v ≡ None) × (v ≡ var) × (s ≡ positive))
unit_literal values c var positive u v s h =
    ⊎_elim
    (λ (q : same_literal var positive v s ≡ true).
    let r = literal_is var positive v s q in
    inr (ap values r.0 ∙ u.unvalued, r.0, r.1))
    (λ (q : same_literal var positive v s ≡ false). inl (u.others v s h q))
    (bool_cases (same_literal var positive v s))

unit_proper : (values : Partial) (c : Clause) (var : ℕ) (positive : Bool) → IsUnit values c var positive → IsProper c
unit_proper values c var positive u v p n =
    elim (unit_literal values c var positive u v true p) [
      | inl a ↦ elim (unit_literal values c var positive u v false n) [
        | inl b ↦ let z : Some false ≡ Some true = sym a ∙ b in cc
        | inr b ↦ let z : Some false ≡ None = sym a ∙ b.0 in cc
      ]
      | inr a ↦ elim (unit_literal values c var positive u v false n) [
        | inl b ↦ let z : None ≡ Some true = sym a.0 ∙ b in cc
        | inr b ↦ let z : true ≡ false = a.2 ∙ sym b.2 in cc
      ]
    ]

-- a clause whose literals are all in a unit clause is not settled
not_settled : (values : Partial) (c d : Clause) (var : ℕ) (positive : Bool) → IsUnit values c var positive →
    ((v : ℕ) (s : Bool) → d v s ≡ true → c v s ≡ true) → ClauseIsSettled values d → ⊥
not_settled values c d var positive u f (inl t) =
    elim (unit_literal values c var positive u t.var t.positive (f t.var t.positive t.has)) [
      | inl a ↦ own_sign t.positive (some_is (sym t.is_true ∙ a))
      | inr a ↦ let z : Some t.positive ≡ None = sym t.is_true ∙ a.0 in cc
    ]
not_settled values c d var positive u f (inr o) =
    elim (unit_literal values c var positive u o.var o.positive (f o.var o.positive o.has)) [
      | inl a ↦ let z : None ≡ Some (not o.positive) = sym o.unvalued ∙ a in cc
      | inr a ↦ elim (unit_literal values c var positive u o.other_var o.other_positive (f o.other_var o.other_positive o.has_other)) [
        | inl b ↦ let z : None ≡ Some (not o.other_positive) = sym o.other_unvalued ∙ b in cc
        | inr b ↦
            let self : same_literal o.var o.positive o.other_var o.other_positive ≡ true =
            rw (a.1, a.2, b.1, b.2) (same_self var positive) in
            let z : true ≡ false = sym self ∙ o.different in cc
      ]
    ]

-- of two clauses the later one is new to the earlier one, so they are different
differ : (first vars : ℕ) (known : List Clause) → EachNew first known → VarsBelow vars known →
    (m n : ℕ) (c d : Clause) → first ≤ m → m < n → slice_get known m ≡ Some c → slice_get known n ≡ Some d →
    code c vars ≡ code d vars → ⊥
differ first vars known new below m n c d l k at at' e =
    let p = new m c l at in
    let q = new n d (omega arith) at' in
    let same = same_code c d vars (unit_proper p.values c p.var p.positive p.unit) (unit_proper q.values d q.var q.positive q.unit) e in
    not_settled q.values d c q.var q.positive q.unit
    (λ v s h. sym (same v s (below m c v s at h)) ∙ h)
    (q.settled m c (get_in_taken known n m c k at))

-- a clause that is new to those before it has other literals than each of them
pub new_differs : (first : ℕ) (known : List Clause) → EachNew first known →
    (m n : ℕ) (c d : Clause) → first ≤ n → m < n → slice_get known m ≡ Some c → slice_get known n ≡ Some d →
    ((v : ℕ) (s : Bool) → c v s ≡ d v s) → ⊥
new_differs first known new m n c d l k at at' same =
    let q = new n d l at' in
    not_settled q.values d c q.var q.positive q.unit (λ v s h. sym (same v s) ∙ h) (q.settled m c (get_in_taken known n m c k at))

-- and no variable with both signs
pub new_proper : (first : ℕ) (known : List Clause) → EachNew first known →
    (n : ℕ) (c : Clause) → first ≤ n → slice_get known n ≡ Some c → (v : ℕ) → c v true ≡ true → c v false ≡ false
new_proper first known new n c l at v p =
    let q = new n c l at in
    elim (bool_cases (c v false)) [
      | inl e ↦ absurd (unit_proper q.values c q.var q.positive q.unit v p e)
      | inr e ↦ e
    ]

-- the clause at a place
clause_at : List Clause → ℕ → Clause
clause_at known n = slice_index_or known n (λ v s. false)

at_place : (known : List Clause) (n : ℕ) → n < length known → slice_get known n ≡ Some (clause_at known n)
unfolding clause_at
at_place known n h = slice_get-get_or known n (λ v s. false) h

place_code : ℕ → ℕ → List Clause → ℕ → ℕ
place_code first vars known i = code (clause_at known (first + i)) vars - 1

either : (i j : ℕ) → (i ≡ j) ⊎ ((i < j) ⊎ (j < i))
either i j = grind arith

pub fewer_than_sets : (first vars n : ℕ) (known : List Clause) → EachNew first known → VarsBelow vars known →
    length known ≡ first + n → n < 3 ^ vars
unfolding place_code
fewer_than_sets first vars n known new below long =
    let at : (i : ℕ) → i < n → slice_get known (first + i) ≡ Some (clause_at known (first + i)) =
    λ i h. at_place known (first + i) (omega arith) in
    let positive : (i : ℕ) → i < n → 0 < code (clause_at known (first + i)) vars =
    λ i h. (let p = new (first + i) (clause_at known (first + i)) (omega arith) (at i h) in
    code_positive (clause_at known (first + i)) vars p.var p.positive p.unit.has
    (below (first + i) (clause_at known (first + i)) p.var p.positive (at i h) p.unit.has)) in
    let few = pigeonhole n (3 ^ vars - 1) (place_code first vars known)
    (λ i h. let a = positive i h in let b = code-lt (clause_at known (first + i)) vars in omega arith)
    (λ i j h k e.
    let a = positive i h in let b = positive j k in
    let same : code (clause_at known (first + i)) vars ≡ code (clause_at known (first + j)) vars = omega arith in
    elim (either i j) [
      | inl q ↦ q
      | inr q ↦ elim q [
        | inl r ↦ absurd (differ first vars known new below (first + i) (first + j) _ _ (omega arith) (omega arith) (at i h) (at j k) same)
        | inr r ↦ absurd (differ first vars known new below (first + j) (first + i) _ _ (omega arith) (omega arith) (at j k) (at i h) (sym same))
      ]
    ]) in
    let some = code-lt (λ v s. false) vars in
    omega arith
