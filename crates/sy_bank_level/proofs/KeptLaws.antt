-- What is kept once one term more is kept for a nonterminal of the last size.
use Rattle.std.proofs.Common.{◌≡◌, ℕ, zero, suc, ◌+◌, ◌<◌, List, [], ◌∷◌, ◌++◌, length, refl, ap, Some, slice_get, arith, ◌⊎◌, inl, inr}
use Rattle.std.specs.Prelude.{slice_index_or, slice_set}
use Rattle.std.proofs.lemmas.Option.{none-some}
use Rattle.sy_bank_level.specs.Banks.{kept_at, kept_count, count_of}

-- lists of the nonterminals, with one item more for one of them
abbrev pub pushed : {X : Type 0} → List (List X) → ℕ → X → List (List X)
pushed lists m x = slice_set lists m (slice_index_or lists m [] ++ x ∷ [])

-- one less than the next number is less than this one, or this one
pub below-or-last : (i j : ℕ) → i < j + 1 → (i < j) ⊎ (i ≡ j)
below-or-last i j below = grind arith

pub at-end : {X : Type 0} (xs : List X) (i : ℕ) (x y : X) → slice_get (xs ++ x ∷ []) i ≡ Some y → (slice_get xs i ≡ Some y) ⊎ ((i ≡ length xs) × (y ≡ x))
at-end [] zero x y at = inr (refl, cc)
at-end [] (suc i) x y at = absurd (none-some y at)
at-end (z ∷ xs) zero x y at = inl at
at-end (z ∷ xs) (suc i) x y at = elim (at-end xs i x y at) [ inl h ↦ inl h | inr h ↦ inr (ap suc h.0, h.1) ]

-- the item at a place is an earlier one, or the last of its list
pub at-pushed : {X : Type 0} (lists : List (List X)) (m n i : ℕ) (x y : X) → slice_get (slice_index_or (pushed lists m x) n []) i ≡ Some y →
    (slice_get (slice_index_or lists n []) i ≡ Some y) ⊎ ((n ≡ m) × (i ≡ length (slice_index_or lists m [])) × (y ≡ x))
at-pushed [] m n i x y at = inl at
at-pushed (list ∷ lists) zero zero i x y at = elim (at-end list i x y at) [ inl h ↦ inl h | inr h ↦ inr (refl, h.0, h.1) ]
at-pushed (list ∷ lists) zero (suc n) i x y at = inl at
at-pushed (list ∷ lists) (suc m) zero i x y at = inl at
at-pushed (list ∷ lists) (suc m) (suc n) i x y at = elim (at-pushed lists m n i x y at) [ inl h ↦ inl h | inr h ↦ inr (ap suc h.0, h.1, h.2) ]

-- earlier items stay
pub still-pushed : {X : Type 0} (lists : List (List X)) (m n i : ℕ) (x y : X) → slice_get (slice_index_or lists n []) i ≡ Some y → slice_get (slice_index_or (pushed lists m x) n []) i ≡ Some y
still-pushed [] m n i x y at = at
still-pushed {X} (list ∷ lists) zero zero i x y at = front list i at
  where
    front : (xs : List X) (i : ℕ) → slice_get xs i ≡ Some y → slice_get (xs ++ x ∷ []) i ≡ Some y
    front [] i at = absurd (none-some y at)
    front (z ∷ xs) zero at = at
    front (z ∷ xs) (suc i) at = front xs i at
still-pushed (list ∷ lists) zero (suc n) i x y at = at
still-pushed (list ∷ lists) (suc m) zero i x y at = at
still-pushed (list ∷ lists) (suc m) (suc n) i x y at = still-pushed lists m n i x y at

-- the new item is the last of its list
pub new-pushed : {X : Type 0} (lists : List (List X)) (m : ℕ) (x : X) → m < length lists → slice_get (slice_index_or (pushed lists m x) m []) (length (slice_index_or lists m [])) ≡ Some x
new-pushed [] m x within = absurd (omega arith)
new-pushed {X} (list ∷ lists) zero x within = last list
  where
    last : (xs : List X) → slice_get (xs ++ x ∷ []) (length xs) ≡ Some x
    last [] = refl
    last (z ∷ xs) = last xs
new-pushed (list ∷ lists) (suc m) x within = new-pushed lists m x (omega arith)

pub wide-pushed : {X : Type 0} (lists : List (List X)) (m : ℕ) (x : X) → length (pushed lists m x) ≡ length lists
wide-pushed [] m x = refl
wide-pushed (list ∷ lists) zero x = refl
wide-pushed (list ∷ lists) (suc m) x = ap suc (wide-pushed lists m x)

length-last : {X : Type 0} (xs : List X) (x : X) → length (xs ++ x ∷ []) ≡ length xs + 1
length-last [] x = refl
length-last (y ∷ xs) x = omega (arith, length-last xs x)

count_of-pushed : {X : Type 0} (lists : List (List X)) (m : ℕ) (x : X) → m < length lists → count_of (pushed lists m x) ≡ count_of lists + 1
count_of-pushed [] m x within = absurd (omega arith)
count_of-pushed (list ∷ lists) zero x within = omega (arith, length-last list x)
count_of-pushed (list ∷ lists) (suc m) x within = omega (arith, count_of-pushed lists m x (omega arith))

-- the same for the last of several sizes
pub at-last : {X : Type 0} (levels : List (List (List X))) (lists : List (List X)) (m n size i : ℕ) (x y : X) → slice_get (kept_at (levels ++ pushed lists m x ∷ []) n size) i ≡ Some y →
    (slice_get (kept_at (levels ++ lists ∷ []) n size) i ≡ Some y) ⊎ ((n ≡ m) × (size ≡ length levels) × (i ≡ length (slice_index_or lists m [])) × (y ≡ x))
at-last [] lists m n zero i x y at = elim (at-pushed lists m n i x y at) [ inl h ↦ inl h | inr h ↦ inr (h.0, refl, h.1, h.2) ]
at-last [] lists m n (suc size) i x y at = inl at
at-last (level ∷ levels) lists m n zero i x y at = inl at
at-last (level ∷ levels) lists m n (suc size) i x y at = elim (at-last levels lists m n size i x y at) [ inl h ↦ inl h | inr h ↦ inr (h.0, ap suc h.1, h.2, h.3) ]

pub still-last : {X : Type 0} (levels : List (List (List X))) (lists : List (List X)) (m n size i : ℕ) (x y : X) → slice_get (kept_at (levels ++ lists ∷ []) n size) i ≡ Some y →
    slice_get (kept_at (levels ++ pushed lists m x ∷ []) n size) i ≡ Some y
still-last [] lists m n zero i x y at = still-pushed lists m n i x y at
still-last [] lists m n (suc size) i x y at = at
still-last (level ∷ levels) lists m n zero i x y at = at
still-last (level ∷ levels) lists m n (suc size) i x y at = still-last levels lists m n size i x y at

-- what is kept of the last size
pub kept_at-last : {X : Type 0} (levels : List (List (List X))) (lists : List (List X)) (n : ℕ) → kept_at (levels ++ lists ∷ []) n (length levels) ≡ slice_index_or lists n []
kept_at-last [] lists n = refl
kept_at-last (level ∷ levels) lists n = kept_at-last levels lists n

-- what is kept of lesser sizes
pub kept_at-before : {X : Type 0} (levels : List (List (List X))) (lists : List (List X)) (n size : ℕ) → size < length levels → kept_at (levels ++ lists ∷ []) n size ≡ kept_at levels n size
kept_at-before [] lists n size within = absurd (omega arith)
kept_at-before (level ∷ levels) lists n zero within = refl
kept_at-before (level ∷ levels) lists n (suc size) within = kept_at-before levels lists n size (omega arith)

none-at : {X : Type 0} (n : ℕ) → slice_index_or {A = List X} [] n [] ≡ []
none-at n = refl

-- nothing is kept of greater sizes
pub kept_at-beyond : {X : Type 0} (levels : List (List (List X))) (lists : List (List X)) (n size : ℕ) → length levels < size → kept_at (levels ++ lists ∷ []) n size ≡ []
kept_at-beyond {X} [] lists n zero above = absurd (omega arith)
kept_at-beyond {X} [] lists n (suc size) above = none-at n
kept_at-beyond (level ∷ levels) lists n zero above = absurd (omega arith)
kept_at-beyond (level ∷ levels) lists n (suc size) above = kept_at-beyond levels lists n size (omega arith)

pub count-last : {X : Type 0} (levels : List (List (List X))) (lists : List (List X)) (m : ℕ) (x : X) → m < length lists → kept_count (levels ++ pushed lists m x ∷ []) ≡ kept_count (levels ++ lists ∷ []) + 1
count-last [] lists m x within = omega (arith, count_of-pushed lists m x within)
count-last (level ∷ levels) lists m x within = omega (arith, count-last levels lists m x within)

-- a kept term stands at a size that there is
pub size-within : {X : Type 0} (levels : List (List (List X))) (n size place : ℕ) (x : X) → slice_get (kept_at levels n size) place ≡ Some x → size < length levels
size-within [] n size place x at = absurd (none-some x at)
size-within (level ∷ levels) n zero place x at = omega arith
size-within (level ∷ levels) n (suc size) place x at = let below = size-within levels n size place x at in omega (arith, below)
