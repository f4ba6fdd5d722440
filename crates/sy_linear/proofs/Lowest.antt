-- What the operations on fractions answer is the fraction in lowest terms.
use Rattle.std.proofs.Common.{◌≡◌, ◌≢◌, ◌*◌, ◌≤◌, ◌<◌, ◌+◌, ltb, ◌/◌, ◌%◌, ◌∙◌, refl, sym, ap, ℕ, suc, zero, Bool, true, false, cond, arith}
use Rattle.std.specs.Prelude.{ℤ, pos, negsuc, ◌*ℤ◌, ◌+ℤ◌, ◌≤ℤ◌, ◌<ℤ◌, ◌&&◌, unsigned_abs, Option, Some, None}
use Rattle.std.specs.Int.{IsGcd, int_div_euclid}
use Rattle.std.proofs.Math.Nat.{mul-le-mul_right}
use borrow.Author.Differences.{up, down, ints, same_in, sum_is_lem, product_is}
use Rattle.std.proofs.lemmas.Nat.Gcd.{IsGcd-from_mod, IsGcd-from_zero}
use Rattle.std.proofs.lemmas.Bool.{lt-ltb, ltb-true, ltb-false}
use Rattle.sy_frac.specs.Fraction.{Fraction, IsInRange, IsQuotient, QuotientIff, SumFits, sum_over, signed_of, opposite_of}
use Rattle.sy_frac.proofs.Quotients.{abs-positive, abs-signed, product_nonzero, lowest_rest, value_rest}
use Rattle.sy_frac.proofs.Canonical.{same_quotient}
use Rattle.std.specs.Option.{option_and_then}
use Rattle.sy_linear.specs.Exact.{whole_fits, gcd_within, gcd, lowest, exact, checked_whole, fraction_sum, fraction_product, fraction_quotient, whole_multiple, checked_plus_multiple, over_whole}

gcd_divides : (steps a b : ℕ) → b < steps → IsGcd a b (gcd_within steps a b)
unfolding gcd_within
gcd_divides zero a b h = absurd (omega arith)
gcd_divides (suc n) a zero h = IsGcd-from_zero a 0 refl
gcd_divides (suc n) a (suc b) h = IsGcd-from_mod a (suc b) (gcd_within n (suc b) (a % suc b)) (gcd_divides n (suc b) (a % suc b) (omega arith))

gcd_positive : (steps a b : ℕ) → b < steps → 0 < a + b → 0 < gcd_within steps a b
unfolding gcd_within
gcd_positive zero a b h p = absurd (omega arith)
gcd_positive (suc n) a zero h p = omega arith
gcd_positive (suc n) a (suc b) h p = gcd_positive n (suc b) (a % suc b) (omega arith) (omega arith)

pub lowest_is : (n d : ℤ) → IsInRange n → IsInRange d → d ≢ pos 0 → IsQuotient (lowest n d) n d
unfolding lowest gcd
lowest_is n d nf df nonzero =
    let u : ℕ = unsigned_abs n in
    let l : ℕ = unsigned_abs d in
    let g : ℕ = gcd_within (suc l) u l in
    let h : IsGcd u l g = gcd_divides (suc l) u l (omega arith) in
    let p : 0 < g = gcd_positive (suc l) u l (omega arith) (omega (arith, abs-positive d nonzero)) in
    let z : ℤ = signed_of (opposite_of n d) (u / g) in
    record {
      value = value_rest n d z u l g refl refl h p refl;
      lowest = lowest_rest n d z u l g nf df nonzero refl refl h p (abs-signed (opposite_of n d) (u / g));
    }

-- what `exact` asks for, by the conditions of an operation
exact_is : (r : Option Fraction) (P : Type 0) (b : Bool) (n d : ℤ) → QuotientIff r P n d → d ≢ pos 0 → (P → (b ≡ true) × (IsInRange n × IsInRange d)) → (b ≡ true → P) → r ≡ exact b n d
exact_is None P b n d q nonzero to from = by b refl
  where
    by : (t : Bool) → b ≡ t → None ≡ cond t (Some (lowest n d)) None
    by true e = absurd (q (from e))
    by false e = refl
exact_is (Some f) P b n d q nonzero to from =
    let k : (b ≡ true) × (IsInRange n × IsInRange d) = to q.0 in
    ap Some (same_quotient f (lowest n d) n d nonzero q.1 (lowest_is n d k.1.0 k.1.1 nonzero)) ∙ sym (ap (λ t. cond t (Some (lowest n d)) None) k.0)

one_nonzero : pos 1 ≢ pos 0
one_nonzero e = cc

pub positive_nonzero : (n : ℕ) → 0 < n → pos n ≢ pos 0
positive_nonzero zero p e = omega arith
positive_nonzero (suc n) p e = cc

both_true : (a b : Bool) → a ≡ true → b ≡ true → (a && b) ≡ true
both_true a b h k = ap (λ t. t && b) h ∙ k

pub left_true : (a b : Bool) → (a && b) ≡ true → a ≡ true
left_true true b h = refl
left_true false b h = h

pub right_true : (a b : Bool) → (a && b) ≡ true → b ≡ true
right_true true b h = h
right_true false b h = absurd cc

fits_from : (n : ℤ) → IsInRange n → whole_fits n ≡ true
fits_from n h = lt-ltb _ _ h

pub fits_to : (n : ℤ) → whole_fits n ≡ true → IsInRange n
fits_to n h = ltb-true _ _ h

one_fits : IsInRange (pos 1)
one_fits = omega arith

pub whole_is : (r : Option Fraction) (n : ℤ) → QuotientIff r ((pos 1 ≢ pos 0) × IsInRange n × IsInRange (pos 1)) n (pos 1) → r ≡ checked_whole n
whole_is r n q = exact_is r ((pos 1 ≢ pos 0) × IsInRange n × IsInRange (pos 1)) (whole_fits n) n (pos 1) q one_nonzero (λ p. (fits_from n p.1, (p.1, p.2))) (λ e. (one_nonzero, fits_to n e, one_fits))

pub multiplied_is : (r : Option Fraction) (f g : Fraction) → 0 < f.den → 0 < g.den → QuotientIff r (IsInRange (f.num *ℤ g.num) × IsInRange (pos f.den *ℤ pos g.den)) (f.num *ℤ g.num) (pos f.den *ℤ pos g.den) → r ≡ fraction_product f g
multiplied_is r f g p k q =
    let n : ℤ = f.num *ℤ g.num in
    let d : ℤ = pos f.den *ℤ pos g.den in
    exact_is r _ (whole_fits n && whole_fits d) n d q (product_nonzero (pos f.den) (pos g.den) (positive_nonzero f.den p) (positive_nonzero g.den k))
    (λ h. (both_true (whole_fits n) (whole_fits d) (fits_from n h.0) (fits_from d h.1), h))
    (λ e. (fits_to n (left_true (whole_fits n) (whole_fits d) e), fits_to d (right_true (whole_fits n) (whole_fits d) e)))

pub quotient_is : (r : Option Fraction) (f g : Fraction) → 0 < f.den → g.num ≢ pos 0 → QuotientIff r (IsInRange (f.num *ℤ pos g.den) × IsInRange (pos f.den *ℤ g.num)) (f.num *ℤ pos g.den) (pos f.den *ℤ g.num) → r ≡ fraction_quotient f g
quotient_is r f g p k q =
    let n : ℤ = f.num *ℤ pos g.den in
    let d : ℤ = pos f.den *ℤ g.num in
    exact_is r _ (whole_fits n && whole_fits d) n d q (product_nonzero (pos f.den) g.num (positive_nonzero f.den p) k)
    (λ h. (both_true (whole_fits n) (whole_fits d) (fits_from n h.0) (fits_from d h.1), h))
    (λ e. (fits_to n (left_true (whole_fits n) (whole_fits d) e), fits_to d (right_true (whole_fits n) (whole_fits d) e)))

pub sum_is : (r : Option Fraction) (f g : Fraction) → 0 < f.den → 0 < g.den → QuotientIff r (SumFits f g (sum_over f g)) (sum_over f g) (pos f.den *ℤ pos g.den) → r ≡ fraction_sum f g
sum_is r f g p k q =
    let n : ℤ = sum_over f g in
    let d : ℤ = pos f.den *ℤ pos g.den in
    let a : Bool = whole_fits (f.num *ℤ pos g.den) in
    let b : Bool = whole_fits (g.num *ℤ pos f.den) in
    exact_is r (SumFits f g (sum_over f g)) (a && (b && (whole_fits d && whole_fits n))) n d q (product_nonzero (pos f.den) (pos g.den) (positive_nonzero f.den p) (positive_nonzero g.den k))
    (λ h. (both_true a (b && (whole_fits d && whole_fits n)) (fits_from (f.num *ℤ pos g.den) h.crosses.left) (both_true b (whole_fits d && whole_fits n) (fits_from (g.num *ℤ pos f.den) h.crosses.right) (both_true (whole_fits d) (whole_fits n) (fits_from d h.den) (fits_from n h.whole))), (h.whole, h.den)))
    (λ e.
    let rest : (b && (whole_fits d && whole_fits n)) ≡ true = right_true a (b && (whole_fits d && whole_fits n)) e in
    let last : (whole_fits d && whole_fits n) ≡ true = right_true b (whole_fits d && whole_fits n) rest in
    record {
      crosses = record { left = fits_to (f.num *ℤ pos g.den) (left_true a (b && (whole_fits d && whole_fits n)) e); right = fits_to (g.num *ℤ pos f.den) (left_true b (whole_fits d && whole_fits n) rest) };
      den = fits_to d (left_true (whole_fits d) (whole_fits n) last);
      whole = fits_to n (right_true (whole_fits d) (whole_fits n) last);
    })

pub zero_is : checked_whole (pos 0) ≡ Some (record { num = pos 0; den = 1 })
unfolding lowest gcd gcd_within
zero_is = refl

-- ---- one operation after another
pub multiple_none : (m : Fraction) (n : ℤ) → None ≡ checked_whole n → None ≡ whole_multiple m n
unfolding whole_multiple
multiple_none m n e = ap (option_and_then (λ f. fraction_product m f)) e

pub multiple_some : (m w : Fraction) (n : ℤ) (r : Option Fraction) → Some w ≡ checked_whole n → r ≡ fraction_product m w → r ≡ whole_multiple m n
unfolding whole_multiple
multiple_some m w n r e k = k ∙ ap (option_and_then (λ f. fraction_product m f)) e

pub plus_multiple_none : (m : Fraction) (n : ℤ) (f : Fraction) → None ≡ whole_multiple m n → None ≡ checked_plus_multiple m n f
unfolding checked_plus_multiple
plus_multiple_none m n f e = ap (option_and_then (λ g. fraction_sum g f)) e

pub plus_multiple_some : (m : Fraction) (n : ℤ) (f g : Fraction) (r : Option Fraction) → Some g ≡ whole_multiple m n → r ≡ fraction_sum g f → r ≡ checked_plus_multiple m n f
unfolding checked_plus_multiple
plus_multiple_some m n f g r e k = k ∙ ap (option_and_then (λ h. fraction_sum h f)) e

pub over_whole_none : (d : ℤ) (f : Fraction) → None ≡ checked_whole d → None ≡ over_whole d f
unfolding over_whole
over_whole_none d f e = ap (option_and_then (λ g. fraction_quotient f g)) e

pub over_whole_some : (d : ℤ) (f g : Fraction) (r : Option Fraction) → Some g ≡ checked_whole d → r ≡ fraction_quotient f g → r ≡ over_whole d f
unfolding over_whole
over_whole_some d f g r e k = k ∙ ap (option_and_then (λ h. fraction_quotient f h)) e

-- ---- whole numbers that aren't 0, and rounding
at_least_one : (d : ℤ) → pos 1 ≤ℤ d → d ≢ pos 0
at_least_one (pos zero) h e = absurd (omega (arith, ints, h))
at_least_one (pos (suc n)) h e = cc
at_least_one (negsuc n) h e = cc

pub whole_nonzero : (w : Fraction) (d : ℤ) → pos 1 ≤ℤ d → IsQuotient w d (pos 1) → w.num ≢ pos 0
whole_nonzero w d h q e = product_nonzero d (pos w.den) (at_least_one d h) (positive_nonzero w.den q.lowest.positive) (sym q.value ∙ ap (λ t. t *ℤ pos 1) e)

cancel_lt : (k a b : ℕ) → a * k < b * k → a < b
cancel_lt k a b h = by (ltb a b) refl
  where
    by : (t : Bool) → ltb a b ≡ t → a < b
    by true e = ltb-true a b e
    by false e = let m : b * k ≤ a * k = mul-le-mul_right k (ltb-false a b e) in absurd (omega (arith, m, h))

-- the rounded quotient, by its parts
pub euclid_low : (a : ℤ) (k : ℕ) → 0 < k → up (int_div_euclid a (pos k)) * k + down a ≤ down (int_div_euclid a (pos k)) * k + up a
euclid_low (pos a) k h = omega arith
euclid_low (negsuc a) k h = omega arith

pub euclid_high : (a : ℤ) (k : ℕ) → 0 < k → down (int_div_euclid a (pos k)) * k + up a < up (int_div_euclid a (pos k)) * k + down a + k
euclid_high (pos a) k h = omega arith
euclid_high (negsuc a) k h = omega arith

-- a number with the quotient below it and the next above it is the rounded one
same_floor : (Z z Q q k A a : ℕ) → Z * k + a ≤ z * k + A → z * k + A < Z * k + a + k → Q * k + a ≤ q * k + A → q * k + A < Q * k + a + k → (Z + q < Q + z + 1) × (Q + z < Z + q + 1)
same_floor Z z Q q k A a l h m n = (cancel_lt k (Z + q) (Q + z + 1) (omega (arith, l, h, m, n)), cancel_lt k (Q + z) (Z + q + 1) (omega (arith, l, h, m, n)))

pub floor_is : (a z : ℤ) (k : ℕ) → 0 < k → (z *ℤ pos k) ≤ℤ a → a <ℤ ((z +ℤ pos 1) *ℤ pos k) → z ≡ int_div_euclid a (pos k)
floor_is a z k p l h =
    let q : ℤ = int_div_euclid a (pos k) in
    let m : _ = product_is z (pos k) in
    let n : _ = product_is (z +ℤ pos 1) (pos k) in
    let s : _ = sum_is_lem z (pos 1) in
    let low : up z * k + down a ≤ down z * k + up a = omega (arith, ints, l, m.0, m.1) in
    let t : (up (z +ℤ pos 1) + down z + 0) * k ≡ (down (z +ℤ pos 1) + up z + 1) * k = ap (λ (x : ℕ). x * k) s in
    let high : down z * k + up a < up z * k + down a + k = omega (arith, ints, h, n.0, n.1, t) in
    let both : _ = same_floor (up z) (down z) (up q) (down q) k (up a) (down a) low high (euclid_low a k p) (euclid_high a k p) in
    same_in z q (omega (arith, both.0, both.1))
