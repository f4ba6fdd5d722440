-- Quotient and remainder are the only numbers that compose the dividend, with a remainder from 0 to less than the divisor's magnitude.
use Rattle.std.proofs.Common.{◌≡◌, ℕ, zero, suc, ◌+◌, ◌*◌, ◌-◌, ◌<◌, ◌/◌, refl, ap, arith, ◌∙◌, sym, cond}
use Rattle.std.specs.Prelude.{ℤ, pos, negsuc, ◌+ℤ◌, ◌*ℤ◌, ◌≤ℤ◌, neg_ℤ, unsigned_abs, nat_eq}
use Rattle.std.specs.Int.{int_div_euclid, int_rem_euclid}
use Rattle.std.proofs.lemmas.Int.{ints}
use Rattle.std.proofs.lemmas.Nat.{div-mul-add}
use borrow.Author.Differences.{up, down}
use Rattle.sy_terms.specs.Integers.{whole_quotient, modulus}

pub record IsDivision (dividend divisor quotient remainder : ℤ) : Type 0 where
  pub is : dividend ≡ (divisor *ℤ quotient) +ℤ remainder
  pub least : pos 0 ≤ℤ remainder
  pub most : remainder ≤ℤ pos (unsigned_abs divisor - 1)

by_nonzero : (n : ℕ) (x y : ℤ) → 0 < n → cond (nat_eq n 0) x y ≡ y
by_nonzero zero x y p = absurd (omega arith)
by_nonzero (suc n) x y p = grind arith

neg_times : (b q : ℕ) → negsuc b *ℤ neg_ℤ (pos q) ≡ pos (suc b * q)
neg_times b zero = omega (arith, ints)
neg_times b (suc q) = omega (arith, ints)

euclidean : (a k : ℤ) → 0 < unsigned_abs k → IsDivision a k (int_div_euclid a k) (int_rem_euclid a k)
euclidean (pos m) (pos zero) p = absurd (omega arith)
euclidean (pos m) (pos (suc b)) p = record { is = omega (arith, ints); least = omega (arith, ints); most = omega (arith, ints) }
euclidean (pos m) (negsuc b) p = record { is = rw (neg_times b (m / suc b)) (omega (arith, ints)); least = omega (arith, ints); most = omega (arith, ints) }
euclidean (negsuc m) (pos zero) p = absurd (omega arith)
euclidean (negsuc m) (pos (suc b)) p = record { is = omega (arith, ints); least = omega (arith, ints); most = omega (arith, ints) }
euclidean (negsuc m) (negsuc b) p = record { is = omega (arith, ints); least = omega (arith, ints); most = omega (arith, ints) }

-- quotient and remainder divide
pub divides : (dividend divisor : ℤ) → 0 < unsigned_abs divisor → IsDivision dividend divisor (whole_quotient dividend divisor) (modulus dividend divisor)
divides a k p =
    rw (by_nonzero (unsigned_abs k) (pos 0) (int_div_euclid a k) p, by_nonzero (unsigned_abs k) a (int_rem_euclid a k) p) (euclidean a k p)

same_quotient : (b p q m n : ℕ) → m < b → n < b → p * b + m ≡ q * b + n → p ≡ q
same_quotient b p q m n below also same = sym (div-mul-add p b m below) ∙ (ap (λ x. x / b) same ∙ div-mul-add q b n also)

-- from 0 to less than the number
record IsBelow (n : ℕ) (w : ℤ) : Type 0 where
  within : unsigned_abs w < n
  is : w ≡ pos (unsigned_abs w)

is_below : (n : ℕ) (w : ℤ) → 0 < n → pos 0 ≤ℤ w → w ≤ℤ pos (n - 1) → IsBelow n w
is_below n (pos m) p least most = record { within = omega (arith, ints); is = refl }
is_below n (negsuc m) p least most = absurd (omega (arith, ints))

only_quotient : (a k v w x y : ℤ) → 0 < unsigned_abs k → IsDivision a k v w → IsDivision a k x y → v ≡ x
only_quotient a (pos zero) v w x y p first second = absurd (omega arith)
only_quotient a (pos (suc b)) v w x y p first second =
    let one : IsBelow (suc b) w = is_below (suc b) w p first.least first.most in
    let other : IsBelow (suc b) y = is_below (suc b) y p second.least second.most in
    let sum : (up v + down x) * suc b + unsigned_abs w ≡ (up x + down v) * suc b + unsigned_abs y = omega (arith, ints, first.is, second.is, one.is, other.is) in
    let same : up v + down x ≡ up x + down v = same_quotient (suc b) (up v + down x) (up x + down v) (unsigned_abs w) (unsigned_abs y) one.within other.within sum in
    omega (arith, ints)
only_quotient a (negsuc b) v w x y p first second =
    let one : IsBelow (suc b) w = is_below (suc b) w p first.least first.most in
    let other : IsBelow (suc b) y = is_below (suc b) y p second.least second.most in
    let sum : (down v + up x) * suc b + unsigned_abs w ≡ (down x + up v) * suc b + unsigned_abs y = omega (arith, ints, first.is, second.is, one.is, other.is) in
    let same : down v + up x ≡ down x + up v = same_quotient (suc b) (down v + up x) (down x + up v) (unsigned_abs w) (unsigned_abs y) one.within other.within sum in
    omega (arith, ints)

same_rest : (a p w r : ℤ) → a ≡ p +ℤ w → a ≡ p +ℤ r → w ≡ r
same_rest a p w r one other = omega (arith, ints)

-- what divides is quotient and remainder
pub only : (dividend divisor v w : ℤ) → 0 < unsigned_abs divisor → IsDivision dividend divisor v w → (v ≡ whole_quotient dividend divisor) × (w ≡ modulus dividend divisor)
only a k v w p is =
    let own = divides a k p in
    let same = only_quotient a k v w (whole_quotient a k) (modulus a k) p is own in
    (same, same_rest a (k *ℤ whole_quotient a k) w (modulus a k) (is.is ∙ ap (λ z. (k *ℤ z) +ℤ w) same) own.is)
