-- The values of the rows stay the combinations of the values at which the columns stand.
use Rattle.std.specs.Prelude.{◌≡◌, ◌≢◌, ℕ, ◌<◌, true, false}
use Rattle.std.proofs.Common.{sym, ◌∙◌, ap, ap₂, subst, inl, inr, ◌⊎◌}
use Rattle.std.proofs.Math.Dec.{eqb}
use Rattle.std.proofs.lemmas.Bool.Decides.{eqb_tells}
use Rattle.sy_frac.specs.Rational.{ℚ, ◌+ℚ◌, ◌*ℚ◌, neg_ℚ, +ℚ_comm, +ℚ_assoc, +ℚ_zero, +ℚ-neg, *ℚ_comm, *ℚ-+ℚ, 0ℚ}
use Rattle.sy_linear_known.specs.Total.{total, total-same, zero_at, rest_same, combined_total, combined_split, replaced, replaced_same, replaced_other, IsSolved, IsPut, solved_gives, put_gives}

-- a combination where the value of column e is raised by d
combined_raised : (n e : ℕ) (a y : ℕ → ℚ) (d : ℚ) → e < n → combined_total n a (replaced e (y e +ℚ d) y) ≡ combined_total n a y +ℚ a e *ℚ d
combined_raised n e a y d h =
    combined_split n e a (replaced e (y e +ℚ d) y) h
    ∙ ap₂ (λ s t. s +ℚ t) (ap (λ t. a e *ℚ t) (replaced_same e (y e +ℚ d) y) ∙ *ℚ-+ℚ (a e) (y e) d) same
    ∙ +ℚ_assoc (a e *ℚ y e) (a e *ℚ d) others ∙ ap (λ t. a e *ℚ y e +ℚ t) (+ℚ_comm (a e *ℚ d) others) ∙ sym (+ℚ_assoc (a e *ℚ y e) others (a e *ℚ d))
    ∙ ap (λ t. t +ℚ a e *ℚ d) (sym (combined_split n e a y h))
  where
    others : ℚ
    others = total n (zero_at e (λ j. a j *ℚ y j))

    same : total n (zero_at e (λ j. a j *ℚ replaced e (y e +ℚ d) y j)) ≡ others
    same = rest_same n e (λ j. a j *ℚ replaced e (y e +ℚ d) y j) (λ j. a j *ℚ y j) (λ j l k. ap (λ t. a j *ℚ t) (replaced_other e j (y e +ℚ d) y k))

-- what a step does to the rows: the values z and the columns' values y become w and x; row r comes to its bound b
pub record IsShifted (n e r : ℕ) (rows : ℕ) (p : ℕ → ℕ → ℚ) (q : ℕ → ℕ → ℚ) (z w y x : ℕ → ℚ) (b d : ℚ) : Type 0 where
  pub solved : IsSolved n e (p r) (q r)
  pub put : (i : ℕ) → i < rows → i ≢ r → IsPut n e (q r) (p i) (q i)
  pub shift : d *ℚ p r e ≡ b +ℚ neg_ℚ (z r)
  pub entered : w r ≡ y e +ℚ d
  pub raised : (i : ℕ) → i < rows → i ≢ r → w i ≡ z i +ℚ p i e *ℚ d
  pub left : x e ≡ b
  pub stay : (j : ℕ) → j < n → j ≢ e → x j ≡ y j

module _ (n e r rows : ℕ) (p q : ℕ → ℕ → ℚ) (z w y x : ℕ → ℚ) (b d : ℚ) (column : e < n) (row : r < rows) (shifted : IsShifted n e r rows p q z w y x b d) (balanced : (i : ℕ) → i < rows → z i ≡ combined_total n (p i) y) where
  raised : ℕ → ℚ
  raised = replaced e (y e +ℚ d) y

  -- the row comes to its bound
  bound_is : b ≡ combined_total n (p r) raised
  unfolding raised
  bound_is = sym (combined_raised n e (p r) y d column ∙ ap₂ (λ s t. s +ℚ t) (sym (balanced r row)) (*ℚ_comm (p r e) d ∙ shifted.shift) ∙ ap (λ t. z r +ℚ t) (+ℚ_comm b (neg_ℚ (z r))) ∙ sym (+ℚ_assoc (z r) (neg_ℚ (z r)) b) ∙ ap (λ t. t +ℚ b) (+ℚ-neg (z r)) ∙ +ℚ_comm 0ℚ b ∙ +ℚ_zero b)

  entering_is : raised e ≡ combined_total n (q r) (replaced e b raised)
  entering_is = solved_gives n e (p r) (q r) raised b column shifted.solved bound_is

  -- the columns' values after the step
  columns_after : (a : ℕ → ℚ) → combined_total n a (replaced e b raised) ≡ combined_total n a x
  unfolding combined_total raised
  columns_after a = total-same n (λ j. a j *ℚ replaced e b raised j) (λ j. a j *ℚ x j) (λ j l. ap (λ t. a j *ℚ t) (by j l (eqb_tells j e)))
    where
      by : (j : ℕ) → j < n → ((eqb j e ≡ true) × (j ≡ e)) ⊎ ((eqb j e ≡ false) × (j ≢ e)) → replaced e b raised j ≡ x j
      by j l (inl k) = subst (λ m. replaced e b raised m ≡ x m) (sym k.1) (replaced_same e b raised ∙ sym shifted.left)
      by j l (inr k) = replaced_other e j b raised k.1 ∙ replaced_other e j (y e +ℚ d) y k.1 ∙ sym (shifted.stay j l k.1)

  pub balanced_after : (i : ℕ) → i < rows → w i ≡ combined_total n (q i) x
  unfolding raised
  balanced_after i l = by (eqb_tells i r)
    where
      by : ((eqb i r ≡ true) × (i ≡ r)) ⊎ ((eqb i r ≡ false) × (i ≢ r)) → w i ≡ combined_total n (q i) x
      by (inl k) = subst (λ m. w m ≡ combined_total n (q m) x) (sym k.1) (shifted.entered ∙ sym (replaced_same e (y e +ℚ d) y) ∙ entering_is ∙ columns_after (q r))
      by (inr k) =
          put_gives n e (q r) (p i) (q i) raised b (w i) column (shifted.put i l k.1) entering_is
          (shifted.raised i l k.1 ∙ ap (λ t. t +ℚ p i e *ℚ d) (balanced i l) ∙ sym (combined_raised n e (p i) y d column))
          ∙ columns_after (q i)
