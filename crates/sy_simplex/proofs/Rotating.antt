-- Sets that change by one element out and one in, and come back to what they were: the greatest that goes out comes in.
use Rattle.std.specs.Prelude.{◌≡◌, ◌≢◌, ℕ, zero, suc, ◌<◌, ◌≤◌, Bool, true, false}
use Rattle.std.proofs.Common.{refl, sym, subst, arith, inl, inr, ◌⊎◌, ltb-true, ltb-false}
use Rattle.std.proofs.Math.Dec.{eqb, ltb}
use Rattle.std.proofs.lemmas.Bool.Decides.{eqb_tells}

Found : (ℕ → ℕ) → ℕ → ℕ → ℕ → Type 0
Found f i n v = (k : ℕ) × (i ≤ k) × (k < n) × (f k ≡ v)

Missing : (ℕ → ℕ) → ℕ → ℕ → ℕ → Type 0
Missing f i n v = (k : ℕ) → i ≤ k → k < n → f k ≢ v

find : (f : ℕ → ℕ) (i n v : ℕ) → Found f i n v ⊎ Missing f i n v
unfolding Found Missing
find f i zero v = inr (λ k l m e. omega (arith, m))
find f i (suc n) v = by (find f i n v) (eqb_tells (f n) v) (ltb n i) refl
  where
    by : Found f i n v ⊎ Missing f i n v → ((eqb (f n) v ≡ true) × (f n ≡ v)) ⊎ ((eqb (f n) v ≡ false) × (f n ≢ v)) → (b : Bool) → ltb n i ≡ b → ((k : ℕ) × (i ≤ k) × (k < suc n) × (f k ≡ v)) ⊎ ((k : ℕ) → i ≤ k → k < suc n → f k ≢ v)
    by (inl p) d b e = inl (p.0, p.1, omega (arith, p.2), p.3)
    by (inr p) d true e = inr (λ k l m. absurd (omega (arith, ltb-true n i e, l, m)))
    by (inr p) (inl s) false e = inl (n, ltb-false n i e, omega arith, s.1)
    by (inr p) (inr s) false e = inr (λ k l m. each k l m (eqb_tells k n))
      where
        each : (k : ℕ) → i ≤ k → k < suc n → ((eqb k n ≡ true) × (k ≡ n)) ⊎ ((eqb k n ≡ false) × (k ≢ n)) → f k ≢ v
        each k l m (inl q) = subst (λ h. f h ≢ v) (sym q.1) s.1
        each k l m (inr q) = p k l (omega (arith, m, q.1))

Greatest : (ℕ → ℕ) → ℕ → ℕ → Type 0
Greatest f i n = (s : ℕ) × (i ≤ s) × (s < n) × ((k : ℕ) → i ≤ k → k < n → f k ≤ f s)

greatest : (f : ℕ → ℕ) (i n : ℕ) → i < n → Greatest f i n
unfolding Greatest
greatest f i zero h = absurd (omega arith)
greatest f i (suc n) h = by (ltb i n) refl (greatest f i n)
  where
    last : ((k : ℕ) → i ≤ k → k < n → f k ≤ f n) → (k : ℕ) → i ≤ k → k < suc n → ((eqb k n ≡ true) × (k ≡ n)) ⊎ ((eqb k n ≡ false) × (k ≢ n)) → f k ≤ f n
    last all k l m (inl q) = subst (λ h. f h ≤ f n) (sym q.1) (omega arith)
    last all k l m (inr q) = all k l (omega (arith, m, q.1))

    by : (b : Bool) → ltb i n ≡ b → (i < n → Greatest f i n) → (s : ℕ) × (i ≤ s) × (s < suc n) × ((k : ℕ) → i ≤ k → k < suc n → f k ≤ f s)
    by false e ih = (n, omega (arith, h), omega arith, λ k l m. last (λ j p q. absurd (omega (arith, ltb-false i n e, p, q))) k l m (eqb_tells k n))
    by true e ih = more (ih (ltb-true i n e))
      where
        more : ((s : ℕ) × (i ≤ s) × (s < n) × ((k : ℕ) → i ≤ k → k < n → f k ≤ f s)) → (s : ℕ) × (i ≤ s) × (s < suc n) × ((k : ℕ) → i ≤ k → k < suc n → f k ≤ f s)
        more p = choose (ltb (f p.0) (f n)) refl
          where
            choose : (b : Bool) → ltb (f p.0) (f n) ≡ b → (s : ℕ) × (i ≤ s) × (s < suc n) × ((k : ℕ) → i ≤ k → k < suc n → f k ≤ f s)
            choose true q = (n, omega (arith, h), omega arith, λ k l m. last (λ j a b. omega (arith, p.3 j a b, ltb-true (f p.0) (f n) q)) k l m (eqb_tells k n))
            choose false q = (p.0, p.1, omega (arith, p.2), λ k l m. each k l m (eqb_tells k n))
              where
                each : (k : ℕ) → i ≤ k → k < suc n → ((eqb k n ≡ true) × (k ≡ n)) ⊎ ((eqb k n ≡ false) × (k ≢ n)) → f k ≤ f p.0
                each k l m (inl r) = subst (λ h. f h ≤ f p.0) (sym r.1) (ltb-false (f p.0) (f n) q)
                each k l m (inr r) = p.3 k l (omega (arith, m, r.1))

-- at each k below n the element `out k` goes out of B k and `entering k` comes in; B i and B n are the same
pub record Rotates (i n : ℕ) (B : ℕ → ℕ → Type 0) (out entering : ℕ → ℕ) : Type 0 where
  pub stays : (k v : ℕ) → k < n → v ≢ out k → B k v → B (suc k) v
  pub was : (k v : ℕ) → k < n → v ≢ entering k → B (suc k) v → B k v
  pub inside : (k : ℕ) → k < n → B k (out k)
  pub left : (k : ℕ) → k < n → ¬ (B (suc k) (out k))
  pub outside : (k : ℕ) → k < n → ¬ (B k (entering k))
  pub entered : (k : ℕ) → k < n → B (suc k) (entering k)
  pub onto : (v : ℕ) → B i v → B n v
  pub back : (v : ℕ) → B n v → B i v

module _ (i n : ℕ) (B : ℕ → ℕ → Type 0) (out entering : ℕ → ℕ) (rotates : Rotates i n B out entering) where
  -- what doesn't go out stays in
  carry : (v a b : ℕ) → a ≤ b → b ≤ n → ((k : ℕ) → a ≤ k → k < b → out k ≢ v) → B a v → B b v
  carry v a zero l m h x = let e : a ≡ 0 = omega (arith, l) in subst (λ k. B k v) e x
  carry v a (suc b) l m h x = by (eqb_tells a (suc b)) (carry v a b)
    where
      by : ((eqb a (suc b) ≡ true) × (a ≡ suc b)) ⊎ ((eqb a (suc b) ≡ false) × (a ≢ suc b)) → (a ≤ b → b ≤ n → ((k : ℕ) → a ≤ k → k < b → out k ≢ v) → B a v → B b v) → B (suc b) v
      by (inl s) ih = subst (λ k. B k v) s.1 x
      by (inr s) ih =
          let low : a ≤ b = omega (arith, l, s.1) in
          rotates.stays b v (omega (arith, m)) (λ e. h b low (omega arith) (sym e)) (ih low (omega (arith, m)) (λ k p q. h k p (omega (arith, q))) x)

  -- what didn't come in was in
  carry_back : (v a b : ℕ) → a ≤ b → b ≤ n → ((k : ℕ) → a ≤ k → k < b → entering k ≢ v) → B b v → B a v
  carry_back v a zero l m h x = let e : 0 ≡ a = omega (arith, l) in subst (λ k. B k v) e x
  carry_back v a (suc b) l m h x = by (eqb_tells a (suc b)) (carry_back v a b)
    where
      by : ((eqb a (suc b) ≡ true) × (a ≡ suc b)) ⊎ ((eqb a (suc b) ≡ false) × (a ≢ suc b)) → (a ≤ b → b ≤ n → ((k : ℕ) → a ≤ k → k < b → entering k ≢ v) → B b v → B a v) → B a v
      by (inl s) ih = subst (λ k. B k v) (sym s.1) x
      by (inr s) ih =
          let low : a ≤ b = omega (arith, l, s.1) in
          ih low (omega (arith, m)) (λ k p q. h k p (omega (arith, q))) (rotates.was b v (omega (arith, m)) (λ e. h b low (omega arith) (sym e)) x)

  -- the greatest element that goes out, where it does and where it comes in
  pub record Turns : Type 0 where
    pub goes : ℕ
    pub comes : ℕ
    pub goes_above : i ≤ goes
    pub goes_below : goes < n
    pub comes_below : comes < n
    pub same : entering comes ≡ out goes
    pub greatest_out : out comes ≤ out goes
    pub above : (v : ℕ) → out goes < v → B goes v → B comes v

  pub turns : i < n → Turns
  unfolding Greatest Found Missing
  turns h = by (greatest out i n h)
    where
      by : Greatest out i n → Turns
      by g = found (find entering i n (out g.0))
        where
          -- nothing above it comes in
          none_in : (k : ℕ) → i ≤ k → k < n → entering k ≤ out g.0
          none_in k l m = check (ltb (out g.0) (entering k)) refl
            where
              check : (b : Bool) → ltb (out g.0) (entering k) ≡ b → entering k ≤ out g.0
              check false e = ltb-false (out g.0) (entering k) e
              check true e =
                  let above : out g.0 < entering k = ltb-true (out g.0) (entering k) e in
                  let never : (j : ℕ) → i ≤ j → j < n → out j ≢ entering k = λ j a b s. omega (arith, above, g.3 j a b, s) in
                  let late : B n (entering k) = carry (entering k) (suc k) n (omega (arith, m)) (omega arith) (λ j a b. never j (omega (arith, l, a)) b) (rotates.entered k m) in
                  absurd (rotates.outside k m (carry (entering k) i k l (omega (arith, m)) (λ j a b. never j a (omega (arith, b, m))) (rotates.back (entering k) late)))

          found : Found entering i n (out g.0) ⊎ Missing entering i n (out g.0) → Turns
          found (inr p) =
              let early : B i (out g.0) = carry_back (out g.0) i g.0 g.1 (omega (arith, g.2)) (λ k a b. p k a (omega (arith, b, g.2))) (rotates.inside g.0 g.2) in
              absurd (rotates.left g.0 g.2 (carry_back (out g.0) (suc g.0) n (omega (arith, g.2)) (omega arith) (λ k a b. p k (omega (arith, g.1, a)) b) (rotates.onto (out g.0) early)))
          found (inl p) = record {
            goes = g.0;
            comes = p.0;
            goes_above = g.1;
            goes_below = g.2;
            comes_below = p.2;
            same = p.3;
            greatest_out = g.3 p.0 p.1 p.2;
            above = λ v l x. across v l x (ltb p.0 g.0) refl;
          }
            where
              across : (v : ℕ) → out g.0 < v → B g.0 v → (b : Bool) → ltb p.0 g.0 ≡ b → B p.0 v
              across v l x true e = carry_back v p.0 g.0 (omega (arith, ltb-true p.0 g.0 e)) (omega (arith, g.2)) (λ k a b s. omega (arith, l, none_in k (omega (arith, p.1, a)) (omega (arith, b, g.2)), s)) x
              across v l x false e = carry v g.0 p.0 (ltb-false p.0 g.0 e) (omega (arith, p.2)) (λ k a b s. omega (arith, l, g.3 k (omega (arith, g.1, a)) (omega (arith, b, p.2)), s)) x
