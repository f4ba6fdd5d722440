-- The lists of the clauses that watch each literal.
use Rattle.std.proofs.Common.{◌≡◌, ◌≢◌, ℕ, zero, suc, ◌+◌, ◌*◌, ◌-◌, ◌<◌, ◌≤◌, Bool, true, false, if◌then◌else◌, List, [], ◌∷◌, ◌++◌, length, set, get_or, refl, sym, ap, subst, ◌∙◌, arith, Some, None, Option, inl, inr, ⊎_elim, ◌⊎◌, eqb}
use Rattle.std.specs.Prelude.{slice_get}
use Rattle.std.specs.List.{swap_remove}
use Rattle.std.proofs.lemmas.Bool.Decides.{eqb_tells}
use Rattle.std.proofs.lemmas.Option.{slice_get_within, get_or_from_slice_get}
use Rattle.std.proofs.lemmas.List.{get_or-set_same, get_or-set_other, length-set}
use Rattle.sy_clauses.specs.declared.Lit.{Lit}
use Rattle.sy_clauses.specs.Clauses.{same_literal}
use Rattle.sy_cdcl_literals.specs.declared.outcomes.Pair.{Pair}
use Rattle.sy_cdcl.specs.Watching.{list_of, IsIn, list_at, enlisted, delisted, pair_of, AllListed}
use Rattle.sy_cdcl.proofs.Back.{get_in_taken}
use Rattle.sy_cdcl.proofs.Push.{some_is}

get_old : {X : Type 0} → (xs : List X) (x y : X) (k : ℕ) → slice_get xs k ≡ Some y → slice_get (xs ++ x ∷ []) k ≡ Some y
get_old [] x y k h = cc
get_old (z ∷ zs) x y zero h = h
get_old (z ∷ zs) x y (suc k) h = get_old zs x y k h

get_end : {X : Type 0} → (xs : List X) (x : X) → slice_get (xs ++ x ∷ []) (length xs) ≡ Some x
get_end [] x = refl
get_end (y ∷ ys) x = get_end ys x

pub get_set_same : {X : Type 0} → (xs : List X) (i : ℕ) (x : X) → i < length xs → slice_get (set xs i x) i ≡ Some x
get_set_same [] i x h = absurd (omega arith)
get_set_same (y ∷ ys) zero x h = refl
get_set_same (y ∷ ys) (suc i) x h = get_set_same ys i x (omega arith)

pub get_set_other : {X : Type 0} → (xs : List X) (i k : ℕ) (x : X) → k ≢ i → slice_get (set xs i x) k ≡ slice_get xs k
get_set_other [] i k x h = refl
get_set_other (y ∷ ys) zero zero x h = absurd (h refl)
get_set_other (y ∷ ys) zero (suc k) x h = refl
get_set_other (y ∷ ys) (suc i) zero x h = refl
get_set_other (y ∷ ys) (suc i) (suc k) x h = get_set_other ys i k x (λ e. h (ap suc e))

-- a number stays in a list with one more
in_push : (xs : List ℕ) (x from n : ℕ) → IsIn xs from n → IsIn (xs ++ x ∷ []) from n
in_push xs x from n i = record { place = i.place; later = i.later; at = get_old xs x n i.place i.at }

-- and in one from which another was taken
in_swap : (xs : List ℕ) (place m from n : ℕ) → slice_get xs place ≡ Some m → n ≢ m → from ≤ place → IsIn xs from n →
    IsIn (swap_remove xs place 0) from n
in_swap xs place m from n at other l i =
    let w = slice_get_within xs i.place n i.at in
    let z = slice_get_within xs place m at in
    let later = i.later in
    let apart : i.place ≢ place = λ q. other (some_is (sym i.at ∙ ap (slice_get xs) q ∙ at)) in
    let d = get_or xs (length xs - 1) 0 in
    ⊎_elim
    (λ (a : i.place < length xs - 1). record {
      place = i.place;
      later = i.later;
      at = get_in_taken (set xs place d) (length xs - 1) i.place n a (get_set_other xs place i.place d apart ∙ i.at);
    })
    (λ (a : i.place ≡ length xs - 1).
    let moved : d ≡ n = get_or_from_slice_get xs (length xs - 1) n 0 (ap (slice_get xs) (sym a) ∙ i.at) in
    record {
      place = place;
      later = l;
      at = get_in_taken (set xs place d) (length xs - 1) place n (omega arith) (get_set_same xs place d z ∙ ap Some moved);
    })
    (cases i.place (length xs) w)
  where
    cases : (p n : ℕ) → p < n → (p < n - 1) ⊎ (p ≡ n - 1)
    cases p n h = grind arith

pub in_enlisted : (lists : List (List ℕ)) (i j m from n : ℕ) → i < length lists → IsIn (list_at lists j) from n →
    IsIn (list_at (enlisted lists i m) j) from n
in_enlisted lists i j m from n h x =
    ⊎_elim
    (λ (q : (eqb j i ≡ true) × (j ≡ i)).
    subst (λ (xs : List ℕ). IsIn xs from n)
    (sym (ap (list_at (enlisted lists i m)) q.1 ∙ get_or-set_same lists i (list_at lists i ++ m ∷ []) [] h))
    (in_push (list_at lists i) m from n (subst (λ (k : ℕ). IsIn (list_at lists k) from n) q.1 x)))
    (λ (q : (eqb j i ≡ false) × (j ≢ i)).
    subst (λ (xs : List ℕ). IsIn xs from n) (sym (get_or-set_other lists i j (list_at lists i ++ m ∷ []) [] q.1)) x)
    (eqb_tells j i)

pub in_enlisted_new : (lists : List (List ℕ)) (i m : ℕ) → i < length lists → IsIn (list_at (enlisted lists i m) i) 0 m
in_enlisted_new lists i m h =
    subst (λ (xs : List ℕ). IsIn xs 0 m) (sym (get_or-set_same lists i (list_at lists i ++ m ∷ []) [] h))
    record { place = length (list_at lists i); later = omega arith; at = get_end (list_at lists i) m }

pub in_delisted_other : (lists : List (List ℕ)) (i j place from n : ℕ) → j ≢ i → IsIn (list_at lists j) from n →
    IsIn (list_at (delisted lists i place) j) from n
in_delisted_other lists i j place from n h x =
    subst (λ (xs : List ℕ). IsIn xs from n) (sym (get_or-set_other lists i j (swap_remove (list_at lists i) place 0) [] h)) x

pub in_delisted : (lists : List (List ℕ)) (i j place m from n : ℕ) → i < length lists → slice_get (list_at lists i) place ≡ Some m →
    n ≢ m → from ≤ place → IsIn (list_at lists j) from n → IsIn (list_at (delisted lists i place) j) from n
in_delisted lists i j place m from n h at other l x =
    ⊎_elim
    (λ (q : (eqb j i ≡ true) × (j ≡ i)).
    subst (λ (xs : List ℕ). IsIn xs from n)
    (sym (ap (list_at (delisted lists i place)) q.1 ∙ get_or-set_same lists i (swap_remove (list_at lists i) place 0) [] h))
    (in_swap (list_at lists i) place m from n at other l (subst (λ (k : ℕ). IsIn (list_at lists k) from n) q.1 x)))
    (λ (q : (eqb j i ≡ false) × (j ≢ i)). in_delisted_other lists i j place from n q.1 x)
    (eqb_tells j i)

-- literals have lists of their own
pub list_of-injective : (a b : Lit) → list_of a ≡ list_of b → same_literal a.var a.positive b.var b.positive ≡ true
list_of-injective a b h = same a.var a.positive b.var b.positive h
  where
    self : (v : ℕ) → eqb v v ≡ true
    self v = elim (eqb_tells v v) [ inl q ↦ q.0 | inr q ↦ absurd (q.1 refl) ]

    same : (v : ℕ) (s : Bool) (w : ℕ) (t : Bool) → 2 * v + (if s then 1 else 0) ≡ 2 * w + (if t then 1 else 0) →
        same_literal v s w t ≡ true
    same v true w true h = let e : w ≡ v = omega arith in rw (e, self v) refl
    same v false w false h = let e : w ≡ v = omega arith in rw (e, self v) refl
    same v true w false h = absurd (omega arith)
    same v false w true h = absurd (omega arith)

-- a clause more, with its pair
pub listed_more : (lists : List (List ℕ)) (pairs : List (Option Pair)) (new : Pair) →
    list_of new.first < length lists → list_of new.second < length lists → AllListed lists pairs →
    AllListed (enlisted (enlisted lists (list_of new.first) (length pairs)) (list_of new.second) (length pairs)) (pairs ++ Some new ∷ [])
listed_more lists pairs new h k l n pair e =
    let once = enlisted lists (list_of new.first) (length pairs) in
    let long : list_of new.second < length once = omega (arith, length-set lists (list_of new.first) (list_at lists (list_of new.first) ++ length pairs ∷ [])) in
    ⊎_elim
    (λ (a : pair_of pairs n ≡ Some pair).
    let x = l n pair a in (
      in_enlisted once (list_of new.second) (list_of pair.first) (length pairs) 0 n long
          (in_enlisted lists (list_of new.first) (list_of pair.first) (length pairs) 0 n h x.0),
      in_enlisted once (list_of new.second) (list_of pair.second) (length pairs) 0 n long
          (in_enlisted lists (list_of new.first) (list_of pair.second) (length pairs) 0 n h x.1),
    ))
    (λ (a : (Some new ≡ Some pair) × (n ≡ length pairs)).
    let q : new ≡ pair = some_is a.0 in
    subst (λ (p : Pair). IsIn (list_at (enlisted once (list_of new.second) (length pairs)) (list_of p.first)) 0 n
    × IsIn (list_at (enlisted once (list_of new.second) (length pairs)) (list_of p.second)) 0 n) q
    (subst (λ (m : ℕ). IsIn (list_at (enlisted once (list_of new.second) (length pairs)) (list_of new.first)) 0 m
    × IsIn (list_at (enlisted once (list_of new.second) (length pairs)) (list_of new.second)) 0 m) (sym a.1) (
      in_enlisted once (list_of new.second) (list_of new.first) (length pairs) 0 (length pairs) long (in_enlisted_new lists (list_of new.first) (length pairs) h),
      in_enlisted_new once (list_of new.second) (length pairs) long,
    )))
    (pair_cases pairs (Some new) n pair e)
  where
    pair_cases : (ps : List (Option Pair)) (o : Option Pair) (n : ℕ) (pair : Pair) → pair_of (ps ++ o ∷ []) n ≡ Some pair →
        (pair_of ps n ≡ Some pair) ⊎ ((o ≡ Some pair) × (n ≡ length ps))
    pair_cases [] o zero pair h = inr (h, refl)
    pair_cases [] o (suc n) pair h = cc
    pair_cases (x ∷ xs) o zero pair h = inl h
    pair_cases (x ∷ xs) o (suc n) pair h =
        ⊎_elim (λ (a : pair_of xs n ≡ Some pair). inl a)
        (λ (b : (o ≡ Some pair) × (n ≡ length xs)). inr (b.0, ap suc b.1)) (pair_cases xs o n pair h)

-- a clause more, without a pair
pub listed_skipped : (lists : List (List ℕ)) (pairs : List (Option Pair)) → AllListed lists pairs → AllListed lists (pairs ++ None ∷ [])
listed_skipped lists pairs l n pair e = l n pair (before pairs n e)
  where
    before : (ps : List (Option Pair)) (n : ℕ) → pair_of (ps ++ None ∷ []) n ≡ Some pair → pair_of ps n ≡ Some pair
    before [] zero h = cc
    before [] (suc n) h = cc
    before (x ∷ xs) zero h = h
    before (x ∷ xs) (suc n) h = before xs n h

-- a list with an item is one of the lists
pub list_within : (lists : List (List ℕ)) (i place n : ℕ) → slice_get (list_at lists i) place ≡ Some n → i < length lists
list_within [] i place n h = cc
list_within (x ∷ xs) zero place n h = omega arith
list_within (x ∷ xs) (suc i) place n h = let r = list_within xs i place n h in omega arith

-- a literal of a variable below the number has a list
pub list_of-lt : (l : Lit) (vars lists : ℕ) → l.var < vars → lists ≡ 2 * vars → list_of l < lists
list_of-lt l vars lists h e = let d = below l.positive in omega arith
  where
    below : (s : Bool) → (if s then 1 else 0) < 2
    below true = omega arith
    below false = omega arith
