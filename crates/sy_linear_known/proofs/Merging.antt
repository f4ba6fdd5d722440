-- Sums and multiples of lists of coefficients, step by step.
use Rattle.std.proofs.Common.{◌≡◌, ◌≤◌, ◌<◌, ◌+◌, ◌++◌, ◌∙◌, ◌⊎◌, inl, inr, zero, suc, refl, sym, ap, ap₂, ℕ, List, [], ◌∷◌, length, get_or, drop, take, ◌-◌, Bool, true, false, cond, arith}
use Rattle.std.specs.Prelude.{ℤ, pos, negsuc, ◌+ℤ◌, ◌-ℤ◌, ◌*ℤ◌, ◌&&◌}
use Rattle.std.proofs.lemmas.List.{drop_more, append_assoc, append-nil, take_rest}
use Rattle.std.proofs.lemmas.Bool.{lt-ltb, le-ltb}
use Rattle.std.specs.Ordering.{int_eq}
use Rattle.std.proofs.lemmas.Int.{to_z-of_z}
use mir.Syntax.{w128}
use mir.Val.{SFits, to_z, of_z}
use Rattle.std.proofs.Common.{rules}
use Rattle.std.specs.Cmp.{signed_Decides}
use Rattle.sy_linear_known.specs.Forms.{Coefficient, before, added, scaled, subtracted, in_range, all_in_range}

abbrev none_at : Coefficient
none_at = (0, pos 0)

pub in_range-append : (cs ds : List Coefficient) → all_in_range (cs ++ ds) ≡ (all_in_range cs && all_in_range ds)
in_range-append [] ds = refl
in_range-append (c ∷ cs) ds = rw (in_range-append cs ds) (assoc (in_range c.1) (all_in_range cs) (all_in_range ds))
  where
    assoc : (x y z : Bool) → (x && (y && z)) ≡ ((x && y) && z)
    assoc true y z = refl
    assoc false y z = refl

and_left : (x y : Bool) → (x && y) ≡ true → x ≡ true
and_left true y h = refl
and_left false y h = h

and_right : (x y : Bool) → (x && y) ≡ true → y ≡ true
and_right true y h = h
and_right false y h = absurd cc

pub in_range-at : (cs : List Coefficient) (i : ℕ) → i < length cs → all_in_range cs ≡ true → in_range (get_or cs i none_at).1 ≡ true
in_range-at [] i l h = absurd (omega arith)
in_range-at (c ∷ cs) zero l h = and_left (in_range c.1) (all_in_range cs) h
in_range-at (c ∷ cs) (suc i) l h = in_range-at cs i (omega arith) (and_right (in_range c.1) (all_in_range cs) h)

pub in_range-drop : (cs : List Coefficient) (i : ℕ) → all_in_range cs ≡ true → all_in_range (drop i cs) ≡ true
in_range-drop cs zero h = h
in_range-drop [] (suc i) h = h
in_range-drop (c ∷ cs) (suc i) h = in_range-drop cs i (and_right (in_range c.1) (all_in_range cs) h)

-- one coefficient more
pub in_range-more : (out new : List Coefficient) (i : ℕ) (n : ℤ) → new ≡ out ++ (i, n) ∷ [] → all_in_range out ≡ true → in_range n ≡ true → all_in_range new ≡ true
in_range-more out new i n e h k = ap all_in_range e ∙ in_range-append out ((i, n) ∷ []) ∙ rw (h, k) refl

pub in_range-both : (out more new : List Coefficient) → new ≡ out ++ more → all_in_range out ≡ true → all_in_range more ≡ true → all_in_range new ≡ true
in_range-both out more new e h k = ap all_in_range e ∙ in_range-append out more ∙ rw (h, k) refl

pub in_range-before : (i : ℕ) (n : ℤ) → in_range n ≡ true → all_in_range (before i n []) ≡ true
in_range-before i n h = by (int_eq n (pos 0))
  where
    by : (b : Bool) → all_in_range (cond b [] ((i, n) ∷ [])) ≡ true
    by true = refl
    by false = rw h refl

before-append : (i : ℕ) (n : ℤ) (rest : List Coefficient) → before i n [] ++ rest ≡ before i n rest
before-append i n rest = by (int_eq n (pos 0))
  where
    by : (b : Bool) → cond b [] ((i, n) ∷ []) ++ rest ≡ cond b rest ((i, n) ∷ rest)
    by true = refl
    by false = refl

-- a number out of range isn't 0, so it stands in the list
unfit-before : (i : ℕ) (n : ℤ) (rest : List Coefficient) → in_range n ≡ false → all_in_range (before i n rest) ≡ false
unfit-before i n rest h = by (int_eq n (pos 0)) refl
  where
    by : (b : Bool) → int_eq n (pos 0) ≡ b → all_in_range (cond b rest ((i, n) ∷ rest)) ≡ false
    by true e = absurd (zero_fits (ap in_range (sym ((signed_Decides n (pos 0)).0 e)) ∙ h))
      where
        zero_fits : in_range (pos 0) ≡ false → ⊥
        zero_fits k = cc
    by false e = rw h refl

added-left : (c d : Coefficient) (cs ds : List Coefficient) → c.0 < d.0 → added (c ∷ cs) (d ∷ ds) ≡ c ∷ added cs (d ∷ ds)
unfolding added
added-left c d cs ds l = rw (lt-ltb c.0 d.0 l) refl

added-right : (c d : Coefficient) (cs ds : List Coefficient) → d.0 ≤ c.0 → d.0 < c.0 → added (c ∷ cs) (d ∷ ds) ≡ d ∷ added (c ∷ cs) ds
unfolding added
added-right c d cs ds k l = rw (le-ltb c.0 d.0 k, lt-ltb d.0 c.0 l) refl

added-both : (c d : Coefficient) (cs ds : List Coefficient) → d.0 ≤ c.0 → c.0 ≤ d.0 → added (c ∷ cs) (d ∷ ds) ≡ before c.0 (c.1 +ℤ d.1) (added cs ds)
unfolding added
added-both c d cs ds k l = rw (le-ltb c.0 d.0 k, le-ltb d.0 c.0 l) refl

added-nil : (cs : List Coefficient) → added cs [] ≡ cs
unfolding added
added-nil [] = refl
added-nil (c ∷ cs) = refl

nil-added : (ds : List Coefficient) → added [] ds ≡ ds
unfolding added
nil-added ds = refl

onwards : (out one rest new : List Coefficient) → new ≡ out ++ one → new ++ rest ≡ out ++ (one ++ rest)
onwards out one rest new e = ap (λ xs. xs ++ rest) e ∙ append_assoc out one rest

pub left_kept : (out cs ds all new : List Coefficient) (i j : ℕ) (n : ℤ) → i < length cs → j < length ds → (get_or cs i none_at).0 < (get_or ds j none_at).0 → n ≡ (get_or cs i none_at).1 → out ++ added (drop i cs) (drop j ds) ≡ all → new ≡ out ++ ((get_or cs i none_at).0, n) ∷ [] → new ++ added (drop (i + 1) cs) (drop j ds) ≡ all
left_kept out cs ds all new i j n il jl less same kept e =
    let c = get_or cs i none_at in
    let d = get_or ds j none_at in
    onwards out ((c.0, n) ∷ []) (added (drop (i + 1) cs) (drop j ds)) new e
    ∙ ap (λ m. out ++ (c.0, m) ∷ added (drop (i + 1) cs) (drop j ds)) same
    ∙ ap (λ xs. out ++ c ∷ added (drop (i + 1) cs) xs) (drop_more ds j none_at jl)
    ∙ ap (λ xs. out ++ xs) (sym (added-left c d (drop (i + 1) cs) (drop (j + 1) ds) less))
    ∙ sym (ap (λ xs. out ++ added xs (d ∷ drop (j + 1) ds)) (drop_more cs i none_at il))
    ∙ sym (ap (λ xs. out ++ added (drop i cs) xs) (drop_more ds j none_at jl))
    ∙ kept

pub right_kept : (out cs ds all new : List Coefficient) (i j : ℕ) (n : ℤ) → i < length cs → j < length ds → (get_or ds j none_at).0 ≤ (get_or cs i none_at).0 → (get_or ds j none_at).0 < (get_or cs i none_at).0 → n ≡ (get_or ds j none_at).1 → out ++ added (drop i cs) (drop j ds) ≡ all → new ≡ out ++ ((get_or ds j none_at).0, n) ∷ [] → new ++ added (drop i cs) (drop (j + 1) ds) ≡ all
right_kept out cs ds all new i j n il jl most less same kept e =
    let c = get_or cs i none_at in
    let d = get_or ds j none_at in
    onwards out ((d.0, n) ∷ []) (added (drop i cs) (drop (j + 1) ds)) new e
    ∙ ap (λ m. out ++ (d.0, m) ∷ added (drop i cs) (drop (j + 1) ds)) same
    ∙ ap (λ xs. out ++ d ∷ added xs (drop (j + 1) ds)) (drop_more cs i none_at il)
    ∙ ap (λ xs. out ++ xs) (sym (added-right c d (drop (i + 1) cs) (drop (j + 1) ds) most less))
    ∙ sym (ap (λ xs. out ++ added xs (d ∷ drop (j + 1) ds)) (drop_more cs i none_at il))
    ∙ sym (ap (λ xs. out ++ added (drop i cs) xs) (drop_more ds j none_at jl))
    ∙ kept

-- what is left where both begin with one variable
at_both : (cs ds : List Coefficient) (i j : ℕ) → i < length cs → j < length ds → (get_or ds j none_at).0 ≤ (get_or cs i none_at).0 → (get_or cs i none_at).0 ≤ (get_or ds j none_at).0 → added (drop i cs) (drop j ds) ≡ before (get_or cs i none_at).0 ((get_or cs i none_at).1 +ℤ (get_or ds j none_at).1) (added (drop (i + 1) cs) (drop (j + 1) ds))
at_both cs ds i j il jl most least =
    let c = get_or cs i none_at in
    let d = get_or ds j none_at in
    ap (λ xs. added xs (drop j ds)) (drop_more cs i none_at il)
    ∙ ap (λ xs. added (c ∷ drop (i + 1) cs) xs) (drop_more ds j none_at jl)
    ∙ added-both c d (drop (i + 1) cs) (drop (j + 1) ds) most least

pub both_kept : (out cs ds all new : List Coefficient) (i j : ℕ) (n : ℤ) → i < length cs → j < length ds → (get_or ds j none_at).0 ≤ (get_or cs i none_at).0 → (get_or cs i none_at).0 ≤ (get_or ds j none_at).0 → n ≡ (get_or cs i none_at).1 +ℤ (get_or ds j none_at).1 → out ++ added (drop i cs) (drop j ds) ≡ all → new ≡ out ++ before (get_or cs i none_at).0 n [] → new ++ added (drop (i + 1) cs) (drop (j + 1) ds) ≡ all
both_kept out cs ds all new i j n il jl most least same kept e =
    let c = get_or cs i none_at in
    let rest = added (drop (i + 1) cs) (drop (j + 1) ds) in
    onwards out (before c.0 n []) rest new e
    ∙ ap (λ xs. out ++ xs) (before-append c.0 n rest ∙ ap (λ m. before c.0 m rest) same ∙ sym (at_both cs ds i j il jl most least))
    ∙ kept

pub both_unfit : (out cs ds all : List Coefficient) (i j : ℕ) (m n : ℤ) → i < length cs → j < length ds → (get_or ds j none_at).0 ≤ (get_or cs i none_at).0 → (get_or cs i none_at).0 ≤ (get_or ds j none_at).0 → m ≡ (get_or cs i none_at).1 → n ≡ (get_or ds j none_at).1 → out ++ added (drop i cs) (drop j ds) ≡ all → in_range (m +ℤ n) ≡ false → all_in_range all ≡ false
both_unfit out cs ds all i j m n il jl most least mis nis kept h =
    let c = get_or cs i none_at in
    let d = get_or ds j none_at in
    let rest = added (drop (i + 1) cs) (drop (j + 1) ds) in
    let unfit : in_range (c.1 +ℤ d.1) ≡ false = rw (← mis, ← nis) h in
    sym (ap all_in_range kept) ∙ in_range-append out (added (drop i cs) (drop j ds))
    ∙ ap (λ xs. all_in_range out && all_in_range xs) (at_both cs ds i j il jl most least)
    ∙ ap (λ b. all_in_range out && b) (unfit-before c.0 (c.1 +ℤ d.1) rest unfit) ∙ false_right (all_in_range out)
  where
    false_right : (b : Bool) → (b && false) ≡ false
    false_right true = refl
    false_right false = refl

-- at the end of one list, what is left is the rest of both
pub left_over : (out cs ds all mid new : List Coefficient) (i j : ℕ) → out ++ added (drop i cs) (drop j ds) ≡ all → (drop i cs ≡ []) ⊎ (drop j ds ≡ []) → mid ≡ out ++ drop i cs → new ≡ mid ++ drop j ds → new ≡ all
left_over out cs ds all mid new i j kept (inl h) e f = f ∙ ap (λ xs. xs ++ drop j ds) (e ∙ ap (λ xs. out ++ xs) h ∙ append-nil out) ∙ sym (ap (λ xs. out ++ xs) (ap (λ xs. added xs (drop j ds)) h ∙ nil-added (drop j ds))) ∙ kept
left_over out cs ds all mid new i j kept (inr h) e f = f ∙ ap (λ xs. mid ++ xs) h ∙ append-nil mid ∙ e ∙ sym (ap (λ xs. out ++ xs) (ap (λ xs. added (drop i cs) xs) h ∙ added-nil (drop i cs))) ∙ kept

scaled-more : (k : ℤ) (c : Coefficient) (cs : List Coefficient) → scaled k (c ∷ cs) ≡ before c.0 (k *ℤ c.1) (scaled k cs)
unfolding scaled
scaled-more k c cs = refl

pub scaled_kept : (k : ℤ) (out cs all new : List Coefficient) (i : ℕ) (n : ℤ) → i < length cs → n ≡ k *ℤ (get_or cs i none_at).1 → out ++ scaled k (drop i cs) ≡ all → new ≡ out ++ before (get_or cs i none_at).0 n [] → new ++ scaled k (drop (i + 1) cs) ≡ all
scaled_kept k out cs all new i n il same kept e =
    let c = get_or cs i none_at in
    let rest = scaled k (drop (i + 1) cs) in
    onwards out (before c.0 n []) rest new e
    ∙ ap (λ xs. out ++ xs) (before-append c.0 n rest ∙ ap (λ m. before c.0 m rest) same ∙ sym (scaled-more k c (drop (i + 1) cs)) ∙ sym (ap (scaled k) (drop_more cs i none_at il)))
    ∙ kept

pub scaled_unfit : (k : ℤ) (out cs all : List Coefficient) (i : ℕ) (n : ℤ) → i < length cs → n ≡ k *ℤ (get_or cs i none_at).1 → out ++ scaled k (drop i cs) ≡ all → in_range n ≡ false → all_in_range all ≡ false
scaled_unfit k out cs all i n il same kept h =
    let c = get_or cs i none_at in
    sym (ap all_in_range kept) ∙ in_range-append out (scaled k (drop i cs))
    ∙ ap (λ xs. all_in_range out && all_in_range xs) (ap (scaled k) (drop_more cs i none_at il) ∙ scaled-more k c (drop (i + 1) cs))
    ∙ ap (λ b. all_in_range out && b) (unfit-before c.0 (k *ℤ c.1) (scaled k (drop (i + 1) cs)) (sym (ap in_range same) ∙ h)) ∙ false_right (all_in_range out)
  where
    false_right : (b : Bool) → (b && false) ≡ false
    false_right true = refl
    false_right false = refl

-- a number in range is what its bits say
pub number_back : (z : ℤ) → in_range z ≡ true → to_z w128 (of_z w128 z) ≡ z
number_back z h = to_z-of_z w128 z (fits_signed z h)
  where
    fits_signed : (z : ℤ) → in_range z ≡ true → SFits w128 z
    fits_signed z h = search rules

-- what a slice up to the end adds
pub to_end : (out xs new : List Coefficient) (i : ℕ) → new ≡ out ++ take (length xs - i) (drop i xs) → new ≡ out ++ drop i xs
to_end out xs new i e = e ∙ ap (λ ys. out ++ ys) (take_rest xs i)

pub scaled-nil : (k : ℤ) → scaled k [] ≡ []
unfolding scaled
scaled-nil k = refl

pub not_true : (b : Bool) → (b ≡ true → ⊥) → b ≡ false
not_true true k = absurd (k refl)
not_true false k = refl

-- ---- differences
subtracted-left : (c d : Coefficient) (cs ds : List Coefficient) → c.0 < d.0 → subtracted (c ∷ cs) (d ∷ ds) ≡ c ∷ subtracted cs (d ∷ ds)
unfolding subtracted
subtracted-left c d cs ds l = rw (lt-ltb c.0 d.0 l) refl

subtracted-right : (c d : Coefficient) (cs ds : List Coefficient) → d.0 ≤ c.0 → d.0 < c.0 → subtracted (c ∷ cs) (d ∷ ds) ≡ before d.0 (negsuc 0 *ℤ d.1) (subtracted (c ∷ cs) ds)
unfolding subtracted
subtracted-right c d cs ds k l = rw (le-ltb c.0 d.0 k, lt-ltb d.0 c.0 l) refl

subtracted-both : (c d : Coefficient) (cs ds : List Coefficient) → d.0 ≤ c.0 → c.0 ≤ d.0 → subtracted (c ∷ cs) (d ∷ ds) ≡ before c.0 (c.1 -ℤ d.1) (subtracted cs ds)
unfolding subtracted
subtracted-both c d cs ds k l = rw (le-ltb c.0 d.0 k, le-ltb d.0 c.0 l) refl

subtracted-nil : (cs : List Coefficient) → subtracted cs [] ≡ cs
unfolding subtracted scaled
subtracted-nil [] = refl
subtracted-nil (c ∷ cs) = refl

nil-subtracted : (ds : List Coefficient) → subtracted [] ds ≡ scaled (negsuc 0) ds
unfolding subtracted
nil-subtracted ds = refl

and_false : (b : Bool) → (b && false) ≡ false
and_false true = refl
and_false false = refl

-- what is left begins with the coefficient of this variable
step_before : (out left rest all new : List Coefficient) (i : ℕ) (m n : ℤ) → left ≡ before i m rest → n ≡ m → out ++ left ≡ all → new ≡ out ++ before i n [] → new ++ rest ≡ all
step_before out left rest all new i m n is same kept e =
    onwards out (before i n []) rest new e
    ∙ ap (λ xs. out ++ xs) (before-append i n rest ∙ ap (λ k. before i k rest) same ∙ sym is)
    ∙ kept

step_unfit : (out left rest all : List Coefficient) (i : ℕ) (m : ℤ) → left ≡ before i m rest → out ++ left ≡ all → in_range m ≡ false → all_in_range all ≡ false
step_unfit out left rest all i m is kept h =
    sym (ap all_in_range kept) ∙ in_range-append out left
    ∙ ap (λ xs. all_in_range out && all_in_range xs) is
    ∙ ap (λ b. all_in_range out && b) (unfit-before i m rest h) ∙ and_false (all_in_range out)

pub less_left : (out cs ds all new : List Coefficient) (i j : ℕ) (n : ℤ) → i < length cs → j < length ds → (get_or cs i none_at).0 < (get_or ds j none_at).0 → n ≡ (get_or cs i none_at).1 → out ++ subtracted (drop i cs) (drop j ds) ≡ all → new ≡ out ++ ((get_or cs i none_at).0, n) ∷ [] → new ++ subtracted (drop (i + 1) cs) (drop j ds) ≡ all
less_left out cs ds all new i j n il jl less same kept e =
    let c = get_or cs i none_at in
    let d = get_or ds j none_at in
    onwards out ((c.0, n) ∷ []) (subtracted (drop (i + 1) cs) (drop j ds)) new e
    ∙ ap (λ m. out ++ (c.0, m) ∷ subtracted (drop (i + 1) cs) (drop j ds)) same
    ∙ ap (λ xs. out ++ c ∷ subtracted (drop (i + 1) cs) xs) (drop_more ds j none_at jl)
    ∙ ap (λ xs. out ++ xs) (sym (subtracted-left c d (drop (i + 1) cs) (drop (j + 1) ds) less))
    ∙ sym (ap (λ xs. out ++ subtracted xs (d ∷ drop (j + 1) ds)) (drop_more cs i none_at il))
    ∙ sym (ap (λ xs. out ++ subtracted (drop i cs) xs) (drop_more ds j none_at jl))
    ∙ kept

-- what is left where the second begins with a lesser variable, and where both begin with one
right_is : (cs ds : List Coefficient) (i j : ℕ) → i < length cs → j < length ds → (get_or ds j none_at).0 ≤ (get_or cs i none_at).0 → (get_or ds j none_at).0 < (get_or cs i none_at).0 → subtracted (drop i cs) (drop j ds) ≡ before (get_or ds j none_at).0 (negsuc 0 *ℤ (get_or ds j none_at).1) (subtracted (drop i cs) (drop (j + 1) ds))
right_is cs ds i j il jl most less =
    let c = get_or cs i none_at in
    let d = get_or ds j none_at in
    ap (λ xs. subtracted xs (drop j ds)) (drop_more cs i none_at il)
    ∙ ap (λ xs. subtracted (c ∷ drop (i + 1) cs) xs) (drop_more ds j none_at jl)
    ∙ subtracted-right c d (drop (i + 1) cs) (drop (j + 1) ds) most less
    ∙ sym (ap (λ xs. before d.0 (negsuc 0 *ℤ d.1) (subtracted xs (drop (j + 1) ds))) (drop_more cs i none_at il))

both_is : (cs ds : List Coefficient) (i j : ℕ) → i < length cs → j < length ds → (get_or ds j none_at).0 ≤ (get_or cs i none_at).0 → (get_or cs i none_at).0 ≤ (get_or ds j none_at).0 → subtracted (drop i cs) (drop j ds) ≡ before (get_or cs i none_at).0 ((get_or cs i none_at).1 -ℤ (get_or ds j none_at).1) (subtracted (drop (i + 1) cs) (drop (j + 1) ds))
both_is cs ds i j il jl most least =
    let c = get_or cs i none_at in
    let d = get_or ds j none_at in
    ap (λ xs. subtracted xs (drop j ds)) (drop_more cs i none_at il)
    ∙ ap (λ xs. subtracted (c ∷ drop (i + 1) cs) xs) (drop_more ds j none_at jl)
    ∙ subtracted-both c d (drop (i + 1) cs) (drop (j + 1) ds) most least

pub less_right : (out cs ds all new : List Coefficient) (i j : ℕ) (n : ℤ) → i < length cs → j < length ds → (get_or ds j none_at).0 ≤ (get_or cs i none_at).0 → (get_or ds j none_at).0 < (get_or cs i none_at).0 → n ≡ negsuc 0 *ℤ (get_or ds j none_at).1 → out ++ subtracted (drop i cs) (drop j ds) ≡ all → new ≡ out ++ before (get_or ds j none_at).0 n [] → new ++ subtracted (drop i cs) (drop (j + 1) ds) ≡ all
less_right out cs ds all new i j n il jl most less same kept e = step_before out _ (subtracted (drop i cs) (drop (j + 1) ds)) all new (get_or ds j none_at).0 _ n (right_is cs ds i j il jl most less) same kept e

pub less_right_unfit : (out cs ds all : List Coefficient) (i j : ℕ) (m : ℤ) → i < length cs → j < length ds → (get_or ds j none_at).0 ≤ (get_or cs i none_at).0 → (get_or ds j none_at).0 < (get_or cs i none_at).0 → m ≡ (get_or ds j none_at).1 → out ++ subtracted (drop i cs) (drop j ds) ≡ all → in_range (negsuc 0 *ℤ m) ≡ false → all_in_range all ≡ false
less_right_unfit out cs ds all i j m il jl most less same kept h = step_unfit out (subtracted (drop i cs) (drop j ds)) (subtracted (drop i cs) (drop (j + 1) ds)) all (get_or ds j none_at).0 (negsuc 0 *ℤ (get_or ds j none_at).1) (right_is cs ds i j il jl most less) kept (ap (λ k. in_range (negsuc 0 *ℤ k)) (sym same) ∙ h)

pub less_both : (out cs ds all new : List Coefficient) (i j : ℕ) (n : ℤ) → i < length cs → j < length ds → (get_or ds j none_at).0 ≤ (get_or cs i none_at).0 → (get_or cs i none_at).0 ≤ (get_or ds j none_at).0 → n ≡ (get_or cs i none_at).1 -ℤ (get_or ds j none_at).1 → out ++ subtracted (drop i cs) (drop j ds) ≡ all → new ≡ out ++ before (get_or cs i none_at).0 n [] → new ++ subtracted (drop (i + 1) cs) (drop (j + 1) ds) ≡ all
less_both out cs ds all new i j n il jl most least same kept e = step_before out _ (subtracted (drop (i + 1) cs) (drop (j + 1) ds)) all new (get_or cs i none_at).0 _ n (both_is cs ds i j il jl most least) same kept e

pub less_both_unfit : (out cs ds all : List Coefficient) (i j : ℕ) (m n : ℤ) → i < length cs → j < length ds → (get_or ds j none_at).0 ≤ (get_or cs i none_at).0 → (get_or cs i none_at).0 ≤ (get_or ds j none_at).0 → m ≡ (get_or cs i none_at).1 → n ≡ (get_or ds j none_at).1 → out ++ subtracted (drop i cs) (drop j ds) ≡ all → in_range (m -ℤ n) ≡ false → all_in_range all ≡ false
less_both_unfit out cs ds all i j m n il jl most least mis nis kept h = step_unfit out (subtracted (drop i cs) (drop j ds)) (subtracted (drop (i + 1) cs) (drop (j + 1) ds)) all (get_or cs i none_at).0 ((get_or cs i none_at).1 -ℤ (get_or ds j none_at).1) (both_is cs ds i j il jl most least) kept (sym (ap₂ (λ a b. in_range (a -ℤ b)) mis nis) ∙ h)

-- at the end of one list, what is left is the rest of the first and the opposite of that of the second
pub less_over : (out cs ds all : List Coefficient) (i j : ℕ) → out ++ subtracted (drop i cs) (drop j ds) ≡ all → (drop i cs ≡ []) ⊎ (drop j ds ≡ []) → (out ++ drop i cs) ++ scaled (negsuc 0) (drop j ds) ≡ all
less_over out cs ds all i j kept (inl h) = ap (λ xs. (out ++ xs) ++ scaled (negsuc 0) (drop j ds)) h ∙ ap (λ xs. xs ++ scaled (negsuc 0) (drop j ds)) (append-nil out) ∙ sym (ap (λ xs. out ++ xs) (ap (λ xs. subtracted xs (drop j ds)) h ∙ nil-subtracted (drop j ds))) ∙ kept
less_over out cs ds all i j kept (inr h) = ap (λ xs. (out ++ drop i cs) ++ xs) (ap (scaled (negsuc 0)) h ∙ scaled-nil (negsuc 0)) ∙ append-nil (out ++ drop i cs) ∙ sym (ap (λ xs. out ++ xs) (ap (λ xs. subtracted (drop i cs) xs) h ∙ subtracted-nil (drop i cs))) ∙ kept

pub less_over_unfit : (out cs ds all : List Coefficient) (i j : ℕ) → out ++ subtracted (drop i cs) (drop j ds) ≡ all → (drop i cs ≡ []) ⊎ (drop j ds ≡ []) → all_in_range (scaled (negsuc 0) (drop j ds)) ≡ false → all_in_range all ≡ false
less_over_unfit out cs ds all i j kept over h =
    sym (ap all_in_range (less_over out cs ds all i j kept over)) ∙ in_range-append (out ++ drop i cs) (scaled (negsuc 0) (drop j ds))
    ∙ ap (λ b. all_in_range (out ++ drop i cs) && b) h ∙ and_false (all_in_range (out ++ drop i cs))

-- what a slice from its start on is
pub from_on : (xs : List Coefficient) (i : ℕ) → take (length xs - i) (drop i xs) ≡ drop i xs
from_on xs i = take_rest xs i
