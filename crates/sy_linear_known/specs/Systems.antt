-- Linear forms `e >= 0` over the rational numbers: points that meet them, corners, and multipliers that refute them.
use Rattle.std.specs.Prelude.{◌≡◌, ℕ, zero, suc, ◌<◌, Bool, true, false}
use Rattle.std.proofs.Common.{sym, ◌∙◌, ap, arith}
use Rattle.sy_frac.specs.Rational.{ℚ, 0ℚ, ◌+ℚ◌, ◌*ℚ◌, is_negative_rational, not_negative_plus, not_negative_times, zero_not_negative}
use Rattle.sy_linear_known.specs.Total.{total, combined_total}

-- `count` forms over `vars` variables: the coefficient of each variable, and the constant
pub record System : Type 0 where
  pub vars : ℕ
  pub count : ℕ
  pub linear : ℕ → ℕ → ℚ
  pub constant : ℕ → ℚ

-- the value of form i at a point
unfoldable pub form_at_point : System → ℕ → (ℕ → ℚ) → ℚ
form_at_point s i x = combined_total s.vars (s.linear i) x +ℚ s.constant i

-- the point meets every form
unfoldable pub MeetsSystem : System → (ℕ → ℚ) → Type 0
MeetsSystem s x = (i : ℕ) → i < s.count → is_negative_rational (form_at_point s i x) ≡ false

-- the multipliers are not negative, and they combine the forms to one negative number at every point
pub record IsRefutation (s : System) (m : ℕ → ℚ) : Type 0 where
  pub not_negative : (i : ℕ) → i < s.count → is_negative_rational (m i) ≡ false
  pub constant : ℚ
  pub negative : is_negative_rational constant ≡ true
  pub combines : (x : ℕ → ℚ) → total s.count (λ i. m i *ℚ form_at_point s i x) ≡ constant

pub total_not_negative : (n : ℕ) (f : ℕ → ℚ) → ((i : ℕ) → i < n → is_negative_rational (f i) ≡ false) → is_negative_rational (total n f) ≡ false
unfolding total
total_not_negative zero f h = zero_not_negative
total_not_negative (suc n) f h = not_negative_plus (total n f) (f n) (total_not_negative n f (λ i l. h i (omega arith))) (h n (omega arith))

-- forms that are refuted are met by no point
pub refuted : (s : System) (m : ℕ → ℚ) → IsRefutation s m → (x : ℕ → ℚ) → MeetsSystem s x → ⊥
unfolding MeetsSystem
refuted s m r x h = clash (sym r.negative ∙ ap is_negative_rational (sym (r.combines x)) ∙ total_not_negative s.count (λ i. m i *ℚ form_at_point s i x) (λ i l. not_negative_times (m i) (form_at_point s i x) (r.not_negative i l) (h i l)))
  where
    clash : true ≡ false → ⊥
    clash e = cc

-- a point is a corner: the only one at which some forms and some variables, chosen together, are all 0
pub record IsCorner (s : System) (x : ℕ → ℚ) : Type 0 where
  pub forms : ℕ → Bool
  pub variables : ℕ → Bool
  pub forms_zero : (i : ℕ) → i < s.count → forms i ≡ true → form_at_point s i x ≡ 0ℚ
  pub variables_zero : (j : ℕ) → j < s.vars → variables j ≡ true → x j ≡ 0ℚ
  pub only : (y : ℕ → ℚ) → ((i : ℕ) → i < s.count → forms i ≡ true → form_at_point s i y ≡ 0ℚ) → ((j : ℕ) → j < s.vars → variables j ≡ true → y j ≡ 0ℚ) → (j : ℕ) → j < s.vars → y j ≡ x j
