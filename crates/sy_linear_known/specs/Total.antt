-- Finite sums of rational numbers, and the exchange of a basic and a nonbasic variable.
use Rattle.std.specs.Prelude.{◌≡◌, ◌≢◌, ℕ, zero, suc, ◌<◌, true, false, cond}
use Rattle.std.proofs.Common.{refl, sym, ◌∙◌, ap, ap₂, subst, arith, inl, inr, ◌⊎◌, ◌==◌}
use Rattle.std.proofs.Math.Dec.{eqb}
use Rattle.std.proofs.lemmas.Bool.Decides.{eqb_tells}
use Rattle.sy_frac.specs.Rational.{ℚ, 0ℚ, 1ℚ, ◌+ℚ◌, ◌*ℚ◌, neg_ℚ, +ℚ_cancel, +ℚ_comm, +ℚ_assoc, +ℚ_left_comm, +ℚ_zero, +ℚ-neg, *ℚ_comm, *ℚ_assoc, *ℚ_left_comm, *ℚ_one, one-*ℚ, *ℚ-+ℚ, +ℚ-*ℚ, *ℚ_zero, zero-*ℚ, neg_ℚ-*ℚ}

-- f 0 + .. + f (n - 1)
unfoldable pub total : ℕ → (ℕ → ℚ) → ℚ
total zero f = 0ℚ
total (suc n) f = total n f +ℚ f n

pub total-plus : (n : ℕ) (f g : ℕ → ℚ) → total n (λ j. f j +ℚ g j) ≡ total n f +ℚ total n g
unfolding total
total-plus zero f g = sym (+ℚ_zero 0ℚ)
total-plus (suc n) f g = rw (total-plus n f g) (simp (+ℚ_assoc, +ℚ_left_comm, +ℚ_comm))

pub total-times : (n : ℕ) (x : ℚ) (f : ℕ → ℚ) → total n (λ j. x *ℚ f j) ≡ x *ℚ total n f
unfolding total
total-times zero x f = sym (*ℚ_zero x)
total-times (suc n) x f = rw (total-times n x f) (sym (*ℚ-+ℚ x (total n f) (f n)))

pub total-same : (n : ℕ) (f g : ℕ → ℚ) → ((j : ℕ) → j < n → f j ≡ g j) → total n f ≡ total n g
unfolding total
total-same zero f g h = refl
total-same (suc n) f g h = ap₂ (λ s t. s +ℚ t) (total-same n f g (λ j k. h j (omega arith))) (h n (omega arith))

pub total_zero : (n : ℕ) → total n (λ j. 0ℚ) ≡ 0ℚ
unfolding total
total_zero zero = refl
total_zero (suc n) = rw (total_zero n) (+ℚ_zero 0ℚ)

-- f with the value at e put to 0
unfoldable pub zero_at : ℕ → (ℕ → ℚ) → ℕ → ℚ
zero_at e f j = cond (j == e) 0ℚ (f j)

pub without_same : (e : ℕ) (f : ℕ → ℚ) → zero_at e f e ≡ 0ℚ
unfolding zero_at
without_same e f = by (eqb_tells e e)
  where
    by : ((eqb e e ≡ true) × (e ≡ e)) ⊎ ((eqb e e ≡ false) × (e ≢ e)) → zero_at e f e ≡ 0ℚ
    by (inl h) = rw (h.0)
    by (inr h) = absurd (h.1 refl)

pub without_other : (e j : ℕ) (f : ℕ → ℚ) → j ≢ e → zero_at e f j ≡ f j
unfolding zero_at
without_other e j f n = by (eqb_tells j e)
  where
    by : ((eqb j e ≡ true) × (j ≡ e)) ⊎ ((eqb j e ≡ false) × (j ≢ e)) → zero_at e f j ≡ f j
    by (inl h) = absurd (n h.1)
    by (inr h) = rw (h.0)

split_step : (n e : ℕ) (f : ℕ → ℚ) → e < suc n → (e < n → total n f ≡ f e +ℚ total n (zero_at e f)) → ((eqb e n ≡ true) × (e ≡ n)) ⊎ ((eqb e n ≡ false) × (e ≢ n)) → total n f +ℚ f n ≡ f e +ℚ (total n (zero_at e f) +ℚ zero_at e f n)
split_step n e f h ih (inl k) =
    subst (λ m. total n f +ℚ f n ≡ f m +ℚ (total n (zero_at m f) +ℚ zero_at m f n)) (sym k.1)
    (rw (without_same n f, +ℚ_zero, total-same n (zero_at n f) f (λ j l. without_other n j f (omega arith))) (+ℚ_comm (total n f) (f n)))
split_step n e f h ih (inr k) =
    let l : e < n = omega (arith, k.1) in
    rw (without_other e n f (λ m. k.1 (sym m)), ih l) (+ℚ_assoc (f e) (total n (zero_at e f)) (f n))

-- a sum is one of its parts and the sum of the others
pub total_split : (n e : ℕ) (f : ℕ → ℚ) → e < n → total n f ≡ f e +ℚ total n (zero_at e f)
unfolding total
total_split zero e f h = absurd (omega arith)
total_split (suc n) e f h = split_step n e f h (total_split n e f) (eqb_tells e n)

-- ---- the exchange of the variable of a row and the variable of a column
-- column e of the values is replaced by y
unfoldable pub replaced : ℕ → ℚ → (ℕ → ℚ) → ℕ → ℚ
replaced e y x j = cond (j == e) y (x j)

pub replaced_same : (e : ℕ) (y : ℚ) (x : ℕ → ℚ) → replaced e y x e ≡ y
unfolding replaced
replaced_same e y x = by (eqb_tells e e)
  where
    by : ((eqb e e ≡ true) × (e ≡ e)) ⊎ ((eqb e e ≡ false) × (e ≢ e)) → replaced e y x e ≡ y
    by (inl h) = rw (h.0)
    by (inr h) = absurd (h.1 refl)

pub replaced_other : (e j : ℕ) (y : ℚ) (x : ℕ → ℚ) → j ≢ e → replaced e y x j ≡ x j
unfolding replaced
replaced_other e j y x n = by (eqb_tells j e)
  where
    by : ((eqb j e ≡ true) × (j ≡ e)) ⊎ ((eqb j e ≡ false) × (j ≢ e)) → replaced e y x j ≡ x j
    by (inl h) = absurd (n h.1)
    by (inr h) = rw (h.0)

-- the combination of the values x by the coefficients a
unfoldable pub combined_total : ℕ → (ℕ → ℚ) → (ℕ → ℚ) → ℚ
combined_total n a x = total n (λ j. a j *ℚ x j)

-- the row s is the row p solved for the variable of column e
pub record IsSolved (n e : ℕ) (p s : ℕ → ℚ) : Type 0 where
  pub pivot : s e *ℚ p e ≡ 1ℚ
  pub others : (j : ℕ) → j < n → j ≢ e → s j *ℚ p e ≡ neg_ℚ (p j)

-- the row b is the row a in which the solved row s stands for the variable of column e
pub record IsPut (n e : ℕ) (s a b : ℕ → ℚ) : Type 0 where
  pub pivot : b e ≡ a e *ℚ s e
  pub others : (j : ℕ) → j < n → j ≢ e → b j ≡ a j +ℚ a e *ℚ s j

-- a combination is its part at e and the others
pub combined_split : (n e : ℕ) (a x : ℕ → ℚ) → e < n → combined_total n a x ≡ a e *ℚ x e +ℚ total n (zero_at e (λ j. a j *ℚ x j))
unfolding combined_total
combined_split n e a x h = total_split n e (λ j. a j *ℚ x j) h

at_each : (n e : ℕ) (f g : ℕ → ℚ) → ((j : ℕ) → j < n → j ≢ e → f j ≡ g j) → (j : ℕ) → j < n → zero_at e f j ≡ zero_at e g j
at_each n e f g h j l = by (eqb_tells j e)
  where
    by : ((eqb j e ≡ true) × (j ≡ e)) ⊎ ((eqb j e ≡ false) × (j ≢ e)) → zero_at e f j ≡ zero_at e g j
    by (inl k) = subst (λ m. zero_at e f m ≡ zero_at e g m) (sym k.1) (without_same e f ∙ sym (without_same e g))
    by (inr k) = without_other e j f k.1 ∙ h j l k.1 ∙ sym (without_other e j g k.1)

-- functions that agree but at e have the same rest
pub rest_same : (n e : ℕ) (f g : ℕ → ℚ) → ((j : ℕ) → j < n → j ≢ e → f j ≡ g j) → total n (zero_at e f) ≡ total n (zero_at e g)
rest_same n e f g h = total-same n (zero_at e f) (zero_at e g) (at_each n e f g h)

rest_plus : (n e : ℕ) (f g : ℕ → ℚ) → total n (zero_at e f) +ℚ total n (zero_at e g) ≡ total n (zero_at e (λ j. f j +ℚ g j))
rest_plus n e f g = sym (total-plus n (zero_at e f) (zero_at e g)) ∙ total-same n (λ j. zero_at e f j +ℚ zero_at e g j) (zero_at e (λ j. f j +ℚ g j)) (λ j l. by j (eqb_tells j e))
  where
    by : (j : ℕ) → ((eqb j e ≡ true) × (j ≡ e)) ⊎ ((eqb j e ≡ false) × (j ≢ e)) → zero_at e f j +ℚ zero_at e g j ≡ zero_at e (λ j. f j +ℚ g j) j
    by j (inl k) = subst (λ m. zero_at e f m +ℚ zero_at e g m ≡ zero_at e (λ j. f j +ℚ g j) m) (sym k.1) (rw (without_same e f, without_same e g, without_same e (λ j. f j +ℚ g j)) (+ℚ_zero 0ℚ))
    by j (inr k) = rw (without_other e j f k.1, without_other e j g k.1, without_other e j (λ j. f j +ℚ g j) k.1)

rest_times : (n e : ℕ) (x : ℚ) (f : ℕ → ℚ) → x *ℚ total n (zero_at e f) ≡ total n (zero_at e (λ j. x *ℚ f j))
rest_times n e x f = sym (total-times n x (zero_at e f)) ∙ total-same n (λ j. x *ℚ zero_at e f j) (zero_at e (λ j. x *ℚ f j)) (λ j l. by j (eqb_tells j e))
  where
    by : (j : ℕ) → ((eqb j e ≡ true) × (j ≡ e)) ⊎ ((eqb j e ≡ false) × (j ≢ e)) → x *ℚ zero_at e f j ≡ zero_at e (λ j. x *ℚ f j) j
    by j (inl k) = subst (λ m. x *ℚ zero_at e f m ≡ zero_at e (λ j. x *ℚ f j) m) (sym k.1) (rw (without_same e f, without_same e (λ j. x *ℚ f j)) (*ℚ_zero x))
    by j (inr k) = rw (without_other e j f k.1, without_other e j (λ j. x *ℚ f j) k.1)

rest_zero : (n e : ℕ) (f : ℕ → ℚ) → ((j : ℕ) → j < n → j ≢ e → f j ≡ 0ℚ) → total n (zero_at e f) ≡ 0ℚ
rest_zero n e f h = total-same n (zero_at e f) (λ j. 0ℚ) (λ j l. by j l (eqb_tells j e)) ∙ total_zero n
  where
    by : (j : ℕ) → j < n → ((eqb j e ≡ true) × (j ≡ e)) ⊎ ((eqb j e ≡ false) × (j ≢ e)) → zero_at e f j ≡ 0ℚ
    by j l (inl k) = subst (λ m. zero_at e f m ≡ 0ℚ) (sym k.1) (without_same e f)
    by j l (inr k) = without_other e j f k.1 ∙ h j l k.1

-- a combination of replaced values is its part at e and the rest over the old values
combined_replaced : (n e : ℕ) (a x : ℕ → ℚ) (y : ℚ) → e < n → combined_total n a (replaced e y x) ≡ a e *ℚ y +ℚ total n (zero_at e (λ j. a j *ℚ x j))
combined_replaced n e a x y h =
    combined_split n e a (replaced e y x) h
    ∙ ap₂ (λ s t. s +ℚ t) (ap (λ t. a e *ℚ t) (replaced_same e y x))
    (rest_same n e (λ j. a j *ℚ replaced e y x j) (λ j. a j *ℚ x j) (λ j l k. ap (λ t. a j *ℚ t) (replaced_other e j y x k)))

-- with x i = 1, p j and s j with s j * x = - p j: i * p j + s j = 0
opposite : (i x p s : ℚ) → i *ℚ x ≡ 1ℚ → s *ℚ x ≡ neg_ℚ p → i *ℚ p +ℚ s ≡ 0ℚ
opposite i x p s h k = ap (λ t. i *ℚ p +ℚ t) is ∙ +ℚ-neg (i *ℚ p)
  where
    is : s ≡ neg_ℚ (i *ℚ p)
    is = sym (*ℚ_one s) ∙ ap (λ t. s *ℚ t) (sym h) ∙ *ℚ_left_comm s i x ∙ ap (λ t. i *ℚ t) k ∙ *ℚ_comm i (neg_ℚ p) ∙ neg_ℚ-*ℚ p i ∙ ap neg_ℚ (*ℚ_comm p i)

-- the solved row gives the variable of column e
pub solved_gives : (n e : ℕ) (p s x : ℕ → ℚ) (y : ℚ) → e < n → IsSolved n e p s → y ≡ combined_total n p x → x e ≡ combined_total n s (replaced e y x)
solved_gives n e p s x y h d k = sym (combined_replaced n e s x y h ∙ ap (λ t. s e *ℚ t +ℚ ws) (k ∙ combined_split n e p x h) ∙ end)
  where
    wp : ℚ
    wp = total n (zero_at e (λ j. p j *ℚ x j))

    ws : ℚ
    ws = total n (zero_at e (λ j. s j *ℚ x j))

    each : (j : ℕ) → j < n → j ≢ e → s e *ℚ (p j *ℚ x j) +ℚ s j *ℚ x j ≡ 0ℚ
    each j l m = ap (λ t. t +ℚ s j *ℚ x j) (sym (*ℚ_assoc (s e) (p j) (x j))) ∙ sym (+ℚ-*ℚ (s e *ℚ p j) (s j) (x j)) ∙ ap (λ t. t *ℚ x j) (opposite (s e) (p e) (p j) (s j) d.pivot (d.others j l m)) ∙ zero-*ℚ (x j)

    rests : s e *ℚ wp +ℚ ws ≡ 0ℚ
    rests = ap (λ t. t +ℚ ws) (rest_times n e (s e) (λ j. p j *ℚ x j)) ∙ rest_plus n e (λ j. s e *ℚ (p j *ℚ x j)) (λ j. s j *ℚ x j) ∙ rest_zero n e (λ j. s e *ℚ (p j *ℚ x j) +ℚ s j *ℚ x j) each

    first : s e *ℚ (p e *ℚ x e) ≡ x e
    first = sym (*ℚ_assoc (s e) (p e) (x e)) ∙ ap (λ t. t *ℚ x e) d.pivot ∙ one-*ℚ (x e)

    end : s e *ℚ (p e *ℚ x e +ℚ wp) +ℚ ws ≡ x e
    end = ap (λ t. t +ℚ ws) (*ℚ-+ℚ (s e) (p e *ℚ x e) wp) ∙ +ℚ_assoc (s e *ℚ (p e *ℚ x e)) (s e *ℚ wp) ws ∙ ap₂ (λ t u. t +ℚ u) first rests ∙ +ℚ_zero (x e)

-- a row in which the solved row is put holds where the old one does
pub put_gives : (n e : ℕ) (s a b x : ℕ → ℚ) (y z : ℚ) → e < n → IsPut n e s a b → x e ≡ combined_total n s (replaced e y x) → z ≡ combined_total n a x → z ≡ combined_total n b (replaced e y x)
put_gives n e s a b x y z h d k m = m ∙ combined_split n e a x h ∙ ap (λ t. a e *ℚ t +ℚ wa) (k ∙ combined_replaced n e s x y h) ∙ end ∙ sym (combined_replaced n e b x y h)
  where
    wa : ℚ
    wa = total n (zero_at e (λ j. a j *ℚ x j))

    ws : ℚ
    ws = total n (zero_at e (λ j. s j *ℚ x j))

    wb : ℚ
    wb = total n (zero_at e (λ j. b j *ℚ x j))

    each : (j : ℕ) → j < n → j ≢ e → a e *ℚ (s j *ℚ x j) +ℚ a j *ℚ x j ≡ b j *ℚ x j
    each j l o = ap (λ t. t +ℚ a j *ℚ x j) (sym (*ℚ_assoc (a e) (s j) (x j))) ∙ sym (+ℚ-*ℚ (a e *ℚ s j) (a j) (x j)) ∙ ap (λ t. t *ℚ x j) (+ℚ_comm (a e *ℚ s j) (a j) ∙ sym (d.others j l o))

    rests : a e *ℚ ws +ℚ wa ≡ wb
    rests = ap (λ t. t +ℚ wa) (rest_times n e (a e) (λ j. s j *ℚ x j)) ∙ rest_plus n e (λ j. a e *ℚ (s j *ℚ x j)) (λ j. a j *ℚ x j) ∙ rest_same n e (λ j. a e *ℚ (s j *ℚ x j) +ℚ a j *ℚ x j) (λ j. b j *ℚ x j) each

    end : a e *ℚ (s e *ℚ y +ℚ ws) +ℚ wa ≡ b e *ℚ y +ℚ wb
    end = ap (λ t. t +ℚ wa) (*ℚ-+ℚ (a e) (s e *ℚ y) ws) ∙ +ℚ_assoc (a e *ℚ (s e *ℚ y)) (a e *ℚ ws) wa ∙ ap₂ (λ t u. t +ℚ u) (sym (*ℚ_assoc (a e) (s e) y) ∙ ap (λ t. t *ℚ y) (sym d.pivot)) rests

-- ---- back: the exchange of the same two variables undoes an exchange
pub solved_back : (n e : ℕ) (p s : ℕ → ℚ) → IsSolved n e p s → IsSolved n e s p
solved_back n e p s d = record {
  pivot = *ℚ_comm (p e) (s e) ∙ d.pivot;
  others = λ j l m. other j l m;
}
  where
    other : (j : ℕ) → j < n → j ≢ e → p j *ℚ s e ≡ neg_ℚ (s j)
    other j l m = +ℚ_cancel (p j *ℚ s e) (neg_ℚ (s j)) (s j) (ap (λ t. t +ℚ s j) (*ℚ_comm (p j) (s e)) ∙ opposite (s e) (p e) (p j) (s j) d.pivot (d.others j l m) ∙ sym (+ℚ_comm (neg_ℚ (s j)) (s j) ∙ +ℚ-neg (s j)))

pub put_back : (n e : ℕ) (p s a b : ℕ → ℚ) → IsSolved n e p s → IsPut n e s a b → IsPut n e p b a
put_back n e p s a b d q = record {
  pivot = sym (ap (λ t. t *ℚ p e) q.pivot ∙ *ℚ_assoc (a e) (s e) (p e) ∙ ap (λ t. a e *ℚ t) d.pivot ∙ *ℚ_one (a e));
  others = λ j l m. other j l m;
}
  where
    other : (j : ℕ) → j < n → j ≢ e → a j ≡ b j +ℚ b e *ℚ p j
    other j l m =
        sym (ap₂ (λ t u. t +ℚ u *ℚ p j) (q.others j l m) q.pivot
        ∙ +ℚ_assoc (a j) (a e *ℚ s j) ((a e *ℚ s e) *ℚ p j)
        ∙ ap (λ t. a j +ℚ t) (ap (λ t. a e *ℚ s j +ℚ t) (*ℚ_assoc (a e) (s e) (p j)) ∙ sym (*ℚ-+ℚ (a e) (s j) (s e *ℚ p j))
        ∙ ap (λ t. a e *ℚ t) (+ℚ_comm (s j) (s e *ℚ p j) ∙ opposite (s e) (p e) (p j) (s j) d.pivot (d.others j l m)) ∙ *ℚ_zero (a e))
        ∙ +ℚ_zero (a j))
