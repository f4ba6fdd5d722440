-- The fractions that the code makes by turning a sign.
use Rattle.std.proofs.Common.{◌≡◌, ◌≢◌, ◌<◌, refl, sym, ◌∙◌, ap, subst, ℕ, suc, zero, arith, ◌^◌}
use Rattle.std.specs.Prelude.{ℤ, pos, negsuc, neg_ℤ, unsigned_abs}
use Rattle.std.specs.Int.{IsGcd}
use Rattle.std.specs.Prelude.{◌-ℤ◌}
use Rattle.std.proofs.lemmas.Int.{ints, to_z-of_z}
use mir.Syntax.{w128}
use mir.Val.{to_z, of_z, SFits}
use Rattle.sy_frac.specs.Fraction.{Fraction, IsLowest, IsQuotient}
use Rattle.sy_frac.proofs.Canonical.{same_quotient}
use Rattle.std.proofs.Common.{◌*◌, lit<}
use Rattle.std.specs.Int.{◌∣◌}
use Rattle.std.proofs.lemmas.Nat.Gcd.{dvd_refl}
use Rattle.std.proofs.Math.Nat.{dvd-mul_left}
use Rattle.sy_simplex.specs.Operations.{fraction_opposite, fraction_of_whole}

pub abs_neg : (n : ℤ) → unsigned_abs (neg_ℤ n) ≡ unsigned_abs n
abs_neg (pos zero) = refl
abs_neg (pos (suc n)) = refl
abs_neg (negsuc n) = refl

pub opposite_lowest : (f : Fraction) → IsLowest f → IsLowest (fraction_opposite f)
opposite_lowest f h = record {
  num_fits = subst (λ n. n < 2 ^ 127) (sym (abs_neg f.num)) h.num_fits;
  den_fits = h.den_fits;
  positive = h.positive;
  coprime = subst (λ n. IsGcd n f.den 1) (sym (abs_neg f.num)) h.coprime;
}

pub opposite_exact : (f g : Fraction) → IsLowest f → IsQuotient g (neg_ℤ f.num) (pos f.den) → g ≡ fraction_opposite f
opposite_exact f g h q = same_quotient g (fraction_opposite f) (neg_ℤ f.num) (pos f.den) nonzero q (record { value = refl; lowest = opposite_lowest f h })
  where
    nonzero : pos f.den ≢ pos 0
    nonzero e = not_zero f.den h.positive (pos_same f.den 0 e)
      where
        not_zero : (n : ℕ) → 0 < n → n ≡ 0 → ⊥
        not_zero n p e = omega arith

        pos_same : (m n : ℕ) → pos m ≡ pos n → m ≡ n
        pos_same m n e = cc

pub opposite_made : (f g : Fraction) (a b : ℤ) → IsQuotient g a b → IsLowest f → a ≡ neg_ℤ f.num → b ≡ pos f.den → g ≡ fraction_opposite f
opposite_made f g a b q h e d = opposite_exact f g h (subst (λ x. IsQuotient g x (pos f.den)) e (subst (λ y. IsQuotient g a y) d q))

-- the numbers as they come back from their bits
pub number_back : (n m : ℤ) → n ≡ m → unsigned_abs m < 2 ^ 127 → to_z w128 (of_z w128 (pos 0 -ℤ to_z w128 (of_z w128 n))) ≡ neg_ℤ m
number_back n m e h = omega (arith, ints)

pub number_same : (n m : ℤ) → n ≡ m → unsigned_abs m < 2 ^ 127 → to_z w128 (of_z w128 n) ≡ m
number_same n m e h = omega (arith, ints)

pub zero_back : (n m : ℤ) → n ≡ m → unsigned_abs m < 2 ^ 127 → of_z w128 n ≡ 0 → m ≡ pos 0
zero_back n m e h z = sym (number_same n m e h) ∙ ap (to_z w128) z

pub one_positive : pos 1 ≢ pos 0
one_positive e = not_zero 0 0 e
  where
    not_zero : (m n : ℕ) → pos (suc m) ≡ pos 0 → ⊥
    not_zero m n e = cc

pub whole_lowest : (n : ℤ) → unsigned_abs n < 2 ^ 127 → IsLowest (fraction_of_whole n)
whole_lowest n h = record {
  num_fits = h;
  den_fits = lit< tt;
  positive = lit< tt;
  coprime = (dvd-mul_right_one (unsigned_abs n), dvd_refl 1, λ e a b. b);
}
  where
    dvd-mul_right_one : (m : ℕ) → 1 ∣ m
    dvd-mul_right_one m = let e : m * 1 ≡ m = omega arith in let P : ℕ → Type 0 = λ x. 1 ∣ x in subst P e (dvd-mul_left 1 m)

-- a fraction that is n over 1 is the fraction n
pub whole_exact : (f : Fraction) (n d : ℤ) → unsigned_abs n < 2 ^ 127 → d ≡ pos 1 → IsQuotient f n d → f ≡ fraction_of_whole n
whole_exact f n d h e q = same_quotient f (fraction_of_whole n) n (pos 1) one_positive (subst (λ x. IsQuotient f n x) e q) (record { value = refl; lowest = whole_lowest n h })

-- the same for a number that comes back from its bits
pub whole_back : (f : Fraction) (n : ℤ) → SFits w128 n → unsigned_abs (to_z w128 (of_z w128 n)) < 2 ^ 127 → IsQuotient f (to_z w128 (of_z w128 n)) (pos 1) → (unsigned_abs n < 2 ^ 127) × (f ≡ fraction_of_whole n)
whole_back f n r h q =
    let e : to_z w128 (of_z w128 n) ≡ n = to_z-of_z w128 n r in
    let k : unsigned_abs n < 2 ^ 127 = subst (λ m. unsigned_abs m < 2 ^ 127) e h in
    (k, whole_exact f n (pos 1) k refl (subst (λ m. IsQuotient f m (pos 1)) e q))
