-- A fact of each place of a list while its places are written in order.
use Rattle.std.proofs.Common.{◌≡◌, ◌≢◌, ◌<◌, ◌≤◌, ◌+◌, sym, ◌∙◌, ap, subst, ℕ, arith, inl, inr, ◌⊎◌, true, false, List, length, get_or, set}
use Rattle.std.proofs.Math.Dec.{eqb}
use Rattle.std.proofs.Math.ListN.{length-set}
use Rattle.std.proofs.lemmas.Bool.Decides.{eqb_tells}
use Rattle.std.proofs.lemmas.List.{get_or-set_same, get_or-set_other}

-- below n the list has what was to be written, and from n on what it had
pub record IsWritten {A : Type 0} (d : A) (size : ℕ) (P : ℕ → A → Type 0) (old : ℕ → A) (xs : List A) (n : ℕ) : Type 0 where
  pub len : length xs ≡ size
  pub below : (j : ℕ) → j < n → P j (get_or xs j d)
  pub above : (j : ℕ) → n ≤ j → j < size → get_or xs j d ≡ old j

pub written_none : {A : Type 0} → (d : A) (size : ℕ) (P : ℕ → A → Type 0) (old : ℕ → A) (xs : List A) → length xs ≡ size → ((j : ℕ) → j < size → get_or xs j d ≡ old j) → IsWritten d size P old xs 0
written_none d size P old xs n h = record { len = n; below = λ j l. absurd (omega (arith, l)); above = λ j l k. h j k }

-- one place more is written
pub written_more : {A : Type 0} → (d : A) (size : ℕ) (P : ℕ → A → Type 0) (old : ℕ → A) (xs ys : List A) (n : ℕ) (x : A) → n < size → IsWritten d size P old xs n → ys ≡ set xs n x → P n x → IsWritten d size P old ys (n + 1)
written_more d size P old xs ys n x h w e p = record {
  len = ap length e ∙ length-set xs n x ∙ w.len;
  below = λ j l. at_place j l (eqb_tells j n);
  above = λ j l k. let other : j ≢ n = λ (s : j ≡ n). omega (arith, l, s) in ap (λ zs. get_or zs j d) e ∙ get_or-set_other xs n j x d other ∙ w.above j (omega (arith, l)) k;
}
  where
    at_place : (j : ℕ) → j < n + 1 → ((eqb j n ≡ true) × (j ≡ n)) ⊎ ((eqb j n ≡ false) × (j ≢ n)) → P j (get_or ys j d)
    at_place j l (inl s) = subst (λ i. P i (get_or ys i d)) (sym s.1) (subst (P n) (sym (ap (λ zs. get_or zs n d) e ∙ get_or-set_same xs n x d (omega (arith, w.len, h)))) p)
    at_place j l (inr s) = subst (P j) (sym (ap (λ zs. get_or zs j d) e ∙ get_or-set_other xs n j x d s.1)) (w.below j (omega (arith, l, s.1)))

-- one place more stays as it was
pub written_skip : {A : Type 0} → (d : A) (size : ℕ) (P : ℕ → A → Type 0) (old : ℕ → A) (xs : List A) (n : ℕ) → n < size → IsWritten d size P old xs n → P n (old n) → IsWritten d size P old xs (n + 1)
written_skip d size P old xs n h w p = record {
  len = w.len;
  below = λ j l. at_place j l (eqb_tells j n);
  above = λ j l k. w.above j (omega (arith, l)) k;
}
  where
    at_place : (j : ℕ) → j < n + 1 → ((eqb j n ≡ true) × (j ≡ n)) ⊎ ((eqb j n ≡ false) × (j ≢ n)) → P j (get_or xs j d)
    at_place j l (inl s) = subst (λ i. P i (get_or xs i d)) (sym s.1) (subst (P n) (sym (w.above n (omega arith) h)) p)
    at_place j l (inr s) = w.below j (omega (arith, l, s.1))

-- all places are written
pub written_all : {A : Type 0} → (d : A) (size : ℕ) (P : ℕ → A → Type 0) (old : ℕ → A) (xs : List A) (n : ℕ) → IsWritten d size P old xs n → size ≤ n → (j : ℕ) → j < size → P j (get_or xs j d)
written_all d size P old xs n w h j l = w.below j (omega (arith, h, l))
