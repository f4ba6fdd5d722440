-- The numbers of fractions that operations give.
use Rattle.std.specs.Prelude.{◌≡◌, ℕ, ◌+◌, ◌*◌, ◌<◌, Bool, true, false, ℤ, pos, negsuc, neg_ℤ, ◌+ℤ◌, ◌-ℤ◌, ◌*ℤ◌, ◌<ℤ◌, int_lt}
use Rattle.std.proofs.Common.{refl, sym, ◌∙◌, ap, subst, arith, ltb-true}
use Rattle.std.proofs.Math.IntN.{*ℤ_comm, zero-*ℤ}
use borrow.Author.Differences.{up, down, ints, same_in, sum_is_lem}
use Rattle.sy_frac.specs.Fraction.{Fraction, sum_over, difference_over}
use Rattle.sy_frac.specs.Rational.{ℚ, 0ℚ, 1ℚ, ◌+ℚ◌, ◌*ℚ◌, neg_ℚ, is_negative_rational, over, value, over_same, sum_over_is, product_over_is, value_sum, value_product, over_negative, one_over, +ℚ_comm, +ℚ_cancel, +ℚ-neg, zero-+ℚ}
use Rattle.sy_linear_known.specs.Laws.{times_assoc, distributes}
use Rattle.sy_simplex.specs.Operations.{HasResult, difference, quotient, fraction_opposite, fraction_of_whole, IsPlusProduct, IsShift}
use Rattle.sy_simplex.specs.States.{IsLess}

positive_product : (a b : ℕ) → 0 < a → 0 < b → 0 < a * b
positive_product a b p q = grind arith

pub zero_is : value (fraction_of_whole (pos 0)) ≡ 0ℚ
zero_is = +ℚ_cancel zero 0ℚ zero (sum_over_is (pos 0) (pos 0) 1 1 one_positive one_positive ∙ over_same (pos 0 *ℤ pos 1 +ℤ pos 0 *ℤ pos 1) (pos 0) (1 * 1) 1 (omega arith) one_positive refl ∙ sym (zero-+ℚ zero))
  where
    zero : ℚ
    zero = over (pos 0) 1

    one_positive : 0 < 1
    one_positive = omega arith

pub one_is : value (fraction_of_whole (pos 1)) ≡ 1ℚ
one_is = one_over

none : (n : ℤ) → neg_ℤ n +ℤ n ≡ pos 0
none n = same_in _ _ (omega (arith, ints))

opposite_of : (c d : ℤ) → c +ℤ d ≡ pos 0 → c ≡ neg_ℤ d
opposite_of c d h = let k : up (c +ℤ d) + down (pos 0) ≡ down (c +ℤ d) + up (pos 0) = ap (λ x. up x + down (pos 0)) h ∙ sym (ap (λ x. down x + up (pos 0)) h) in same_in _ _ (omega (arith, ints, k, sum_is_lem c d))

turned_times : (a b : ℤ) → neg_ℤ a *ℤ b ≡ neg_ℤ (a *ℤ b)
turned_times a b = opposite_of (neg_ℤ a *ℤ b) (a *ℤ b) (sym (distributes (neg_ℤ a) a b) ∙ ap (λ k. k *ℤ b) (none a) ∙ zero-*ℤ b)

-- n / d + (- n) / d = 0
opposite_cancels : (n : ℤ) (d : ℕ) → 0 < d → over n d +ℚ over (neg_ℤ n) d ≡ 0ℚ
opposite_cancels n d p =
    sum_over_is n (neg_ℤ n) d d p p
    ∙ over_same (n *ℤ pos d +ℤ neg_ℤ n *ℤ pos d) (pos 0) (d * d) 1 (positive_product d d p p) (omega arith) (ap (λ k. k *ℤ pos 1) cancels ∙ sym (zero-*ℤ (pos (d * d))))
    ∙ zero_is
  where
    cancels : n *ℤ pos d +ℤ neg_ℤ n *ℤ pos d ≡ pos 0
    cancels = ap (λ k. n *ℤ pos d +ℤ k) (turned_times n (pos d)) ∙ nothing (n *ℤ pos d)
      where
        nothing : (x : ℤ) → x +ℤ neg_ℤ x ≡ pos 0
        nothing x = same_in _ _ (omega (arith, ints))

pub value_opposite : (f : Fraction) → 0 < f.den → value (fraction_opposite f) ≡ neg_ℚ (value f)
value_opposite f p = +ℚ_cancel (value (fraction_opposite f)) (neg_ℚ (value f)) (value f) (+ℚ_comm (value (fraction_opposite f)) (value f) ∙ opposite_cancels f.num f.den p ∙ sym (+ℚ_comm (neg_ℚ (value f)) (value f) ∙ +ℚ-neg (value f)))

-- f is r * g
pub value_quotient : (f g r : Fraction) → 0 < f.den → 0 < g.den → HasResult quotient f g r → value r *ℚ value g ≡ value f
value_quotient f g r p q h =
    product_over_is r.num g.num r.den g.den h.exact.lowest.positive q
    ∙ over_same (r.num *ℤ g.num) f.num (r.den * g.den) f.den (positive_product r.den g.den h.exact.lowest.positive q) p crossed
  where
    crossed : (r.num *ℤ g.num) *ℤ pos f.den ≡ f.num *ℤ pos (r.den * g.den)
    crossed =
        times_assoc r.num g.num (pos f.den) ∙ ap (λ k. r.num *ℤ k) (*ℤ_comm g.num (pos f.den)) ∙ h.exact.value
        ∙ times_assoc f.num (pos g.den) (pos r.den) ∙ ap (λ k. f.num *ℤ k) (*ℤ_comm (pos g.den) (pos r.den))

-- r is f - g
pub value_difference : (f g r : Fraction) → 0 < f.den → 0 < g.den → HasResult difference f g r → value r ≡ value f +ℚ neg_ℚ (value g)
value_difference f g r p q h =
    value_sum f (fraction_opposite g) r p q (record { value = h.exact.value ∙ ap (λ k. k *ℤ pos r.den) (turned f g); lowest = h.exact.lowest })
    ∙ ap (λ k. value f +ℚ k) (value_opposite g q)
  where
    turned : (f g : Fraction) → difference_over f g ≡ sum_over f (fraction_opposite g)
    turned f g = taken (f.num *ℤ pos g.den) (g.num *ℤ pos f.den) ∙ ap (λ k. f.num *ℤ pos g.den +ℤ k) (sym (turned_times g.num (pos f.den)))
      where
        taken : (x y : ℤ) → x -ℤ y ≡ x +ℤ neg_ℤ y
        taken x y = same_in _ _ (omega (arith, ints))

pub value_plus_product : (own factor other r : Fraction) → 0 < own.den → 0 < factor.den → 0 < other.den → IsPlusProduct own factor other r → value r ≡ value own +ℚ value factor *ℚ value other
value_plus_product own factor other r p q l h =
    value_sum own h.part r p h.part_is.exact.lowest.positive h.sum_is.exact
    ∙ ap (λ k. value own +ℚ k) (value_product factor other h.part q l h.part_is.exact)

-- the shift times the coefficient is the bound minus the value
pub value_shift : (bound v coefficient r : Fraction) → 0 < bound.den → 0 < v.den → 0 < coefficient.den → IsShift bound v coefficient r → value r *ℚ value coefficient ≡ value bound +ℚ neg_ℚ (value v)
value_shift bound v coefficient r p q l h =
    value_quotient h.gap coefficient r h.gap_is.exact.lowest.positive l h.quotient_is
    ∙ value_difference bound v h.gap p q h.gap_is

-- ---- signs
-- f + (- g) is negative exactly where f is below g
over_difference : (f g : Fraction) → 0 < f.den → 0 < g.den → value f +ℚ neg_ℚ (value g) ≡ over (f.num *ℤ pos g.den +ℤ neg_ℤ g.num *ℤ pos f.den) (f.den * g.den)
over_difference f g p q = ap (λ k. value f +ℚ k) (sym (value_opposite g q)) ∙ sum_over_is f.num (neg_ℤ g.num) f.den g.den p q

lt_true : (n : ℤ) → n <ℤ pos 0 → int_lt n (pos 0) ≡ true
lt_true (pos n) h = absurd (omega (arith, ints, h))
lt_true (negsuc n) h = refl

pub lt_false : (n : ℤ) → ¬ (n <ℤ pos 0) → int_lt n (pos 0) ≡ false
lt_false (pos n) h = by (int_lt (pos n) (pos 0)) refl
  where
    by : (b : Bool) → int_lt (pos n) (pos 0) ≡ b → b ≡ false
    by true e = absurd (omega (arith, ltb-true n 0 e))
    by false e = refl
lt_false (negsuc n) h = absurd (h (omega (arith, ints)))

pub less_negative : (f g : Fraction) → 0 < f.den → 0 < g.den → IsLess f g → is_negative_rational (value f +ℚ neg_ℚ (value g)) ≡ true
less_negative f g p q h = ap is_negative_rational (over_difference f g p q) ∙ over_negative (f.num *ℤ pos g.den +ℤ neg_ℤ g.num *ℤ pos f.den) (f.den * g.den) ∙ lt_true (f.num *ℤ pos g.den +ℤ neg_ℤ g.num *ℤ pos f.den) (below (f.num *ℤ pos g.den) (g.num *ℤ pos f.den) (neg_ℤ g.num *ℤ pos f.den) (turned_times g.num (pos f.den)) h)
  where
    below : (a b c : ℤ) → c ≡ neg_ℤ b → a <ℤ b → (a +ℤ c) <ℤ pos 0
    below a b c e h = subst (λ k. (a +ℤ k) <ℤ pos 0) (sym e) (less a b h)
      where
        less : (a b : ℤ) → a <ℤ b → (a +ℤ neg_ℤ b) <ℤ pos 0
        less a b h = omega (arith, ints, h)

pub not_less_negative : (f g : Fraction) → 0 < f.den → 0 < g.den → ¬ (IsLess f g) → is_negative_rational (value f +ℚ neg_ℚ (value g)) ≡ false
not_less_negative f g p q h = ap is_negative_rational (over_difference f g p q) ∙ over_negative (f.num *ℤ pos g.den +ℤ neg_ℤ g.num *ℤ pos f.den) (f.den * g.den) ∙ lt_false (f.num *ℤ pos g.den +ℤ neg_ℤ g.num *ℤ pos f.den) (λ k. h (back (f.num *ℤ pos g.den) (g.num *ℤ pos f.den) (neg_ℤ g.num *ℤ pos f.den) (turned_times g.num (pos f.den)) k))
  where
    back : (a b c : ℤ) → c ≡ neg_ℤ b → (a +ℤ c) <ℤ pos 0 → a <ℤ b
    back a b c e h = less a b (subst (λ k. (a +ℤ k) <ℤ pos 0) e h)
      where
        less : (a b : ℤ) → (a +ℤ neg_ℤ b) <ℤ pos 0 → a <ℤ b
        less a b h = omega (arith, ints, h)

-- where the numerator isn't positive, the opposite isn't negative
pub opposite_not_negative : (f : Fraction) → 0 < f.den → ¬ (pos 0 <ℤ f.num) → is_negative_rational (neg_ℚ (value f)) ≡ false
opposite_not_negative f p h = ap is_negative_rational (sym (value_opposite f p)) ∙ over_negative (neg_ℤ f.num) f.den ∙ lt_false (neg_ℤ f.num) (λ k. h (back f.num k))
  where
    back : (n : ℤ) → neg_ℤ n <ℤ pos 0 → pos 0 <ℤ n
    back n k = omega (arith, ints, k)

pub zero_numerator : (f : Fraction) → 0 < f.den → f.num ≡ pos 0 → value f ≡ 0ℚ
zero_numerator f p e = over_same f.num (pos 0) f.den 1 p (omega arith) (ap (λ k. k *ℤ pos 1) e ∙ sym (zero-*ℤ (pos f.den))) ∙ zero_is
