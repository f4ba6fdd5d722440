-- Sets of the numbers below v have fewer than 2 ^ v + 1 codes: among as many sets two are the same.
use Rattle.std.specs.Prelude.{◌≡◌, ◌≢◌, ℕ, zero, suc, ◌<◌, ◌≤◌, ◌+◌, ◌^◌, ◌==◌, Bool, true, false, cond}
use Rattle.std.proofs.Common.{refl, sym, ◌∙◌, ap, subst, arith, inl, inr, ◌⊎◌}
use Rattle.std.proofs.Math.Dec.{eqb}
use Rattle.std.proofs.Math.Nat.{two-pow-succ}
use Rattle.std.proofs.lemmas.Bool.Decides.{eqb_tells}

-- ---- two of m + 1 numbers below m are the same
unfoldable pub Twice : (ℕ → ℕ) → ℕ → Type 0
Twice f m = (i : ℕ) × (j : ℕ) × (i < j) × (j ≤ m) × (f i ≡ f j)

find : (f : ℕ → ℕ) (n v : ℕ) → ((k : ℕ) × (k < n) × (f k ≡ v)) ⊎ ((k : ℕ) → k < n → f k ≢ v)
find f zero v = inr (λ k l e. omega (arith, l))
find f (suc n) v = by (find f n v) (eqb_tells (f n) v)
  where
    by : ((k : ℕ) × (k < n) × (f k ≡ v)) ⊎ ((k : ℕ) → k < n → f k ≢ v) → ((eqb (f n) v ≡ true) × (f n ≡ v)) ⊎ ((eqb (f n) v ≡ false) × (f n ≢ v)) → ((k : ℕ) × (k < suc n) × (f k ≡ v)) ⊎ ((k : ℕ) → k < suc n → f k ≢ v)
    by (inl p) d = inl (p.0, omega (arith, p.1), p.2)
    by (inr p) (inl s) = inl (n, omega arith, s.1)
    by (inr p) (inr s) = inr (λ k l. each k l (eqb_tells k n))
      where
        each : (k : ℕ) → k < suc n → ((eqb k n ≡ true) × (k ≡ n)) ⊎ ((eqb k n ≡ false) × (k ≢ n)) → f k ≢ v
        each k l (inl q) = subst (λ h. f h ≢ v) (sym q.1) s.1
        each k l (inr q) = p k (omega (arith, l, q.1))

-- f with the value m put to v
moved : (ℕ → ℕ) → ℕ → ℕ → ℕ → ℕ
moved f m v k = cond (f k == m) v (f k)

moved_same : (f : ℕ → ℕ) (m v i j : ℕ) → f i ≢ v → f j ≢ v → moved f m v i ≡ moved f m v j → f i ≡ f j
unfolding moved
moved_same f m v i j p q = by (eqb_tells (f i) m) (eqb_tells (f j) m)
  where
    by : ((eqb (f i) m ≡ true) × (f i ≡ m)) ⊎ ((eqb (f i) m ≡ false) × (f i ≢ m)) → ((eqb (f j) m ≡ true) × (f j ≡ m)) ⊎ ((eqb (f j) m ≡ false) × (f j ≢ m)) → cond (f i == m) v (f i) ≡ cond (f j == m) v (f j) → f i ≡ f j
    by (inl s) (inl t) e = s.1 ∙ sym t.1
    by (inl s) (inr t) e = absurd (q (sym (ap (λ b. cond b v (f i)) (sym s.0) ∙ e ∙ ap (λ b. cond b v (f j)) t.0)))
    by (inr s) (inl t) e = absurd (p (ap (λ b. cond b v (f i)) (sym s.0) ∙ e ∙ ap (λ b. cond b v (f j)) t.0))
    by (inr s) (inr t) e = ap (λ b. cond b v (f i)) (sym s.0) ∙ e ∙ ap (λ b. cond b v (f j)) t.0

moved_below : (f : ℕ → ℕ) (m v k : ℕ) → f k < suc m → f k ≢ v → v < suc m → moved f m v k < m
unfolding moved
moved_below f m v k l n h = by (eqb_tells (f k) m)
  where
    by : ((eqb (f k) m ≡ true) × (f k ≡ m)) ⊎ ((eqb (f k) m ≡ false) × (f k ≢ m)) → cond (f k == m) v (f k) < m
    by (inl s) = rw (s.0) (let d : v ≢ m = λ (e : v ≡ m). n (s.1 ∙ sym e) in omega (arith, h, d))
    by (inr s) = rw (s.0) (omega (arith, l, s.1))

pub pigeonhole : (m : ℕ) (f : ℕ → ℕ) → ((k : ℕ) → k ≤ m → f k < m) → Twice f m
unfolding Twice
pigeonhole zero f h = absurd (let l : f 0 < 0 = h 0 (omega arith) in omega (arith, l))
pigeonhole (suc m) f h = by (find f (suc m) (f (suc m))) (pigeonhole m (moved f m (f (suc m))))
  where
    by : ((k : ℕ) × (k < suc m) × (f k ≡ f (suc m))) ⊎ ((k : ℕ) → k < suc m → f k ≢ f (suc m)) → (((k : ℕ) → k ≤ m → moved f m (f (suc m)) k < m) → Twice (moved f m (f (suc m))) m) → (i : ℕ) × (j : ℕ) × (i < j) × (j ≤ suc m) × (f i ≡ f j)
    by (inl p) ih = (p.0, suc m, p.1, omega arith, p.2)
    by (inr p) ih = back (ih (λ k l. moved_below f m (f (suc m)) k (h k (omega (arith, l))) (p k (omega (arith, l))) (h (suc m) (omega arith))))
      where
        back : (i : ℕ) × (j : ℕ) × (i < j) × (j ≤ m) × (moved f m (f (suc m)) i ≡ moved f m (f (suc m)) j) → (i : ℕ) × (j : ℕ) × (i < j) × (j ≤ suc m) × (f i ≡ f j)
        back q = (q.0, q.1, q.2, omega (arith, q.3), moved_same f m (f (suc m)) q.0 q.1 (p q.0 (omega (arith, q.2, q.3))) (p q.1 (omega (arith, q.3))) q.4)

-- ---- the code of a set
unfoldable pub code : (ℕ → Bool) → ℕ → ℕ
code s zero = 0
code s (suc n) = code s n + cond (s n) (2 ^ n) 0

pub code_below : (s : ℕ → Bool) (n : ℕ) → code s n < 2 ^ n
unfolding code
code_below s zero = omega arith
code_below s (suc n) = by (s n) (code_below s n)
  where
    by : (b : Bool) → code s n < 2 ^ n → code s n + cond b (2 ^ n) 0 < 2 ^ suc n
    by true h = omega (arith, h, two-pow-succ n)
    by false h = omega (arith, h, two-pow-succ n)

pub code_same : (s t : ℕ → Bool) (n : ℕ) → code s n ≡ code t n → (v : ℕ) → v < n → s v ≡ t v
unfolding code
code_same s t zero e v l = absurd (omega (arith, l))
code_same s t (suc n) e v l = by (eqb_tells v n) (code_same s t n rests v)
  where
    parts : (a b : Bool) → s n ≡ a → t n ≡ b → code s n + cond a (2 ^ n) 0 ≡ code t n + cond b (2 ^ n) 0 → (code s n ≡ code t n) × (s n ≡ t n)
    parts true true p q h = (omega (arith, h), p ∙ sym q)
    parts true false p q h = absurd (omega (arith, h, code_below s n, code_below t n))
    parts false true p q h = absurd (omega (arith, h, code_below s n, code_below t n))
    parts false false p q h = (omega (arith, h), p ∙ sym q)

    both : (code s n ≡ code t n) × (s n ≡ t n)
    both = parts (s n) (t n) refl refl e

    rests : code s n ≡ code t n
    rests = both.0

    by : ((eqb v n ≡ true) × (v ≡ n)) ⊎ ((eqb v n ≡ false) × (v ≢ n)) → (v < n → s v ≡ t v) → s v ≡ t v
    by (inl k) ih = subst (λ w. s w ≡ t w) (sym k.1) both.1
    by (inr k) ih = ih (omega (arith, l, k.1))
