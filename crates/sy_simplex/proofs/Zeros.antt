-- Products and sums with 0 fit, and change nothing.
use Rattle.std.proofs.Common.{◌≡◌, ◌≢◌, ◌<◌, refl, sym, ◌∙◌, ap, ap₂, subst, ℕ, arith, lit<, inl, inr, ◌⊎◌, true, false, cond}
use Rattle.std.specs.Prelude.{ℤ, pos, ◌*ℤ◌, ◌+ℤ◌, List, length}
use Rattle.std.proofs.Math.IntN.{*ℤ-zero, zero-*ℤ, +ℤ_idr}
use Rattle.std.proofs.Math.Dec.{eqb}
use Rattle.std.proofs.lemmas.Bool.Decides.{eqb_tells}
use borrow.Author.Differences.{ints, same_in, product_is}
use Rattle.sy_frac.specs.Fraction.{Fraction, IsInRange, IsLowest}
use Rattle.sy_frac.proofs.Canonical.{same_quotient}
use Rattle.sy_simplex.specs.Operations.{HasResult, sum, product, fraction_of_whole, IsPlusProduct}
use Rattle.sy_simplex.specs.Rows.{at, AreLowest, beside, IsPutRow}
use Rattle.sy_simplex.proofs.Exact.{one_positive, whole_lowest}

times_one : (n : ℤ) → n *ℤ pos 1 ≡ n
times_one n = same_in _ _ (omega (arith, ints, product_is n (pos 1)))

one_times : (n : ℤ) → pos 1 *ℤ n ≡ n
one_times n = same_in _ _ (omega (arith, ints, product_is (pos 1) n))

zero_fits : IsInRange (pos 0)
zero_fits = lit< tt

pub zero_lowest : IsLowest (fraction_of_whole (pos 0))
zero_lowest = whole_lowest (pos 0) zero_fits

-- 0 in lowest terms
pub zero_is : (f : Fraction) → IsLowest f → f.num ≡ pos 0 → f ≡ fraction_of_whole (pos 0)
zero_is f h e = same_quotient f (fraction_of_whole (pos 0)) (pos 0) (pos 1) one_positive (record { value = times_one f.num ∙ e ∙ sym (zero-*ℤ (pos f.den)); lowest = h }) (record { value = refl; lowest = zero_lowest })

fits_same : (m n : ℤ) → m ≡ n → IsInRange n → IsInRange m
fits_same m n e h = subst IsInRange (sym e) h

zero_product : (g : Fraction) → IsLowest g → HasResult product (fraction_of_whole (pos 0)) g (fraction_of_whole (pos 0))
zero_product g h = record {
  fits = (fits_same (pos 0 *ℤ g.num) (pos 0) (zero-*ℤ g.num) zero_fits, fits_same (pos 1 *ℤ pos g.den) (pos g.den) (one_times (pos g.den)) h.den_fits);
  exact = record { value = zero-*ℤ (pos 1 *ℤ pos g.den) ∙ sym (times_one (pos 0 *ℤ g.num) ∙ zero-*ℤ g.num); lowest = zero_lowest };
}

product_zero : (f : Fraction) → IsLowest f → HasResult product f (fraction_of_whole (pos 0)) (fraction_of_whole (pos 0))
product_zero f h = record {
  fits = (fits_same (f.num *ℤ pos 0) (pos 0) (*ℤ-zero f.num) zero_fits, fits_same (pos f.den *ℤ pos 1) (pos f.den) (times_one (pos f.den)) h.den_fits);
  exact = record { value = zero-*ℤ (pos f.den *ℤ pos 1) ∙ sym (times_one (f.num *ℤ pos 0) ∙ *ℤ-zero f.num); lowest = zero_lowest };
}

sum_zero : (f : Fraction) → IsLowest f → HasResult sum f (fraction_of_whole (pos 0)) f
sum_zero f h = record {
  fits = record {
    crosses = record {
      left = fits_same (f.num *ℤ pos 1) f.num (times_one f.num) h.num_fits;
      right = fits_same (pos 0 *ℤ pos f.den) (pos 0) (zero-*ℤ (pos f.den)) zero_fits;
    };
    den = fits_same (pos f.den *ℤ pos 1) (pos f.den) (times_one (pos f.den)) h.den_fits;
    whole = fits_same (f.num *ℤ pos 1 +ℤ pos 0 *ℤ pos f.den) f.num all h.num_fits;
  };
  exact = record { value = ap (λ n. f.num *ℤ n) (times_one (pos f.den)) ∙ ap (λ n. n *ℤ pos f.den) (sym all); lowest = h };
}
  where
    all : f.num *ℤ pos 1 +ℤ pos 0 *ℤ pos f.den ≡ f.num
    all = ap₂ (λ a b. a +ℤ b) (times_one f.num) (zero-*ℤ (pos f.den)) ∙ +ℤ_idr f.num

pub plus_nothing : (own factor other : Fraction) → IsLowest own → IsLowest factor → IsLowest other → (factor.num ≡ pos 0) ⊎ (other.num ≡ pos 0) → IsPlusProduct own factor other own
plus_nothing own factor other h k l e = record { part = fraction_of_whole (pos 0); part_is = part e; sum_is = sum_zero own h }
  where
    part : (factor.num ≡ pos 0) ⊎ (other.num ≡ pos 0) → HasResult product factor other (fraction_of_whole (pos 0))
    part (inl e) = subst (λ f. HasResult product f other (fraction_of_whole (pos 0))) (sym (zero_is factor k e)) (zero_product other l)
    part (inr e) = subst (λ f. HasResult product factor f (fraction_of_whole (pos 0))) (sym (zero_is other l e)) (product_zero factor k)

-- a row stays as it is where its coefficient of the column is 0
pub put_nothing : (coefs solved : List Fraction) (e : ℕ) → length coefs ≡ length solved → e < length coefs → AreLowest coefs → AreLowest solved → (at coefs e).num ≡ pos 0 → IsPutRow coefs solved e coefs
put_nothing coefs solved e n h lows solved_lows zero = record {
  len = refl;
  each = λ j l. subst (λ own. IsPlusProduct own (at coefs e) (at solved j) (at coefs j)) (sym (own j (eqb_tells j e))) (plus_nothing (at coefs j) (at coefs e) (at solved j) (lows j l) (lows e h) (solved_lows j (omega (arith, n, l))) (inl zero));
}
  where
    own : (j : ℕ) → ((eqb j e ≡ true) × (j ≡ e)) ⊎ ((eqb j e ≡ false) × (j ≢ e)) → beside coefs e j ≡ at coefs j
    own j (inl k) = ap (λ b. cond b (fraction_of_whole (pos 0)) (at coefs j)) k.0 ∙ sym (ap (at coefs) k.1 ∙ zero_is (at coefs e) (lows e h) zero)
    own j (inr k) = ap (λ b. cond b (fraction_of_whole (pos 0)) (at coefs j)) k.0
