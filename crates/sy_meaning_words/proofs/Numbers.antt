-- Arithmetic of numbers below a power of two.
use Rattle.std.specs.Prelude.{nat_le}
use Rattle.std.proofs.Common.{true, false, arith, ap, refl, ◌≡◌, ◌<◌, ◌≤◌, ◌^◌, ◌%◌, ◌*◌, ◌/◌, ◌+◌, ◌-◌, ℕ, subst, bit_or, bit_xor}
use Rattle.std.proofs.lemmas.Nat.{pow_pos, pow-add, mod_below, shl_whole, or_shifted, or_lt, xor_lt, mul-le, mod-pow-add, shl-shr}
use Rattle.std.proofs.lemmas.Bool.Decides.{nat_tests}
use Rattle.std.proofs.Math.Pow.{shr_mod}
use Rattle.std.proofs.Math.Nat.{pow-le-pow_right, mul-mod_left, div-one}
use Rattle.sy_terms.specs.Values.{Bits, width, number}
use Rattle.sy_terms.specs.Theories.{valid}
use Rattle.sy_terms.specs.BitVectors.{negative, shifted_left, sign_extended, joined, rotated_left, rotated_right}
use Rattle.sy_meaning_core.proofs.Masks.{fits, is_fit}
use Rattle.sy_meaning_core.proofs.Wrapping.{mod_64}

pub or_fits : (w a b : ℕ) → valid (Bits w a) ≡ true → valid (Bits w b) ≡ true → valid (Bits w (bit_or a b)) ≡ true
or_fits w a b h k = let x = is_fit w a h in let y = is_fit w b k in fits w (bit_or a b) x.0 x.1 (or_lt w a b x.2 y.2)

pub xor_fits : (w a b : ℕ) → valid (Bits w a) ≡ true → valid (Bits w b) ≡ true → valid (Bits w (bit_xor a b)) ≡ true
xor_fits w a b h k = let x = is_fit w a h in let y = is_fit w b k in fits w (bit_xor a b) x.0 x.1 (xor_lt w a b x.2 y.2)

not_le : (w t : ℕ) → t < w → nat_le w t ≡ false
not_le w t h = grind (arith, nat_tests)

pub shift_up : (w s t : ℕ) → t < w → w ≤ 64 → s * 2 ^ t % 2 ^ 64 % 2 ^ w ≡ shifted_left w s t
shift_up w s t h k = rw (not_le w t h) (mod_64 (s * 2 ^ t) w k)

-- one number above another
pub cat_below : (v s w t : ℕ) → s < 2 ^ v → t < 2 ^ w → s * 2 ^ w + t < 2 ^ (v + w)
cat_below v s w t h k = rw (pow-add 2 v w) (below s (2 ^ v) (2 ^ w) t h k)
  where
    below : (s p q t : ℕ) → s < p → t < q → s * q + t < p * q
    below s p q t h k = let le = mul-le (s + 1) q p q (omega arith) (omega arith) in omega (arith, le)

pub cat_is : (v s w t : ℕ) → s < 2 ^ v → t < 2 ^ w → v + w ≤ 64 → bit_or (s * 2 ^ w % 2 ^ 64) t ≡ s * 2 ^ w + t
cat_is v s w t h k l = rw (shl_whole s v w 64 h l) (or_shifted s w t k)

pub cat_fits : (v s w t : ℕ) → valid (Bits v s) ≡ true → valid (Bits w t) ≡ true → v + w ≤ 64 → valid (Bits (v + w) (bit_or (s * 2 ^ w % 2 ^ 64) t)) ≡ true
cat_fits v s w t h k l =
    let x = is_fit v s h in
    let y = is_fit w t k in
    rw (cat_is v s w t x.2 y.2 l) (fits (v + w) (s * 2 ^ w + t) (omega (arith, x.0)) l (cat_below v s w t x.2 y.2))

-- more bits
pub wider : (w i s : ℕ) → valid (Bits w s) ≡ true → w + i ≤ 64 → valid (Bits (w + i) s) ≡ true
wider w i s h l =
    let x = is_fit w s h in
    let le : 2 ^ w ≤ 2 ^ (w + i) = pow-le-pow_right (omega arith) (omega arith) in
    fits (w + i) s (omega (arith, x.0)) l (omega (arith, x.2, le))

pub ones_grow : (w i : ℕ) → 2 ^ w ≤ 2 ^ (w + i)
ones_grow w i = pow-le-pow_right (omega arith) (omega arith)

pub filled_fits : (w i s : ℕ) → valid (Bits w s) ≡ true → w + i ≤ 64 → valid (Bits (w + i) (s + (2 ^ (w + i) - 1 - (2 ^ w - 1)))) ≡ true
filled_fits w i s h l =
    let x = is_fit w s h in
    fits (w + i) (s + (2 ^ (w + i) - 1 - (2 ^ w - 1))) (omega (arith, x.0)) l (omega (arith, x.2, ones_grow w i))

pub filled_is : (w i s : ℕ) → negative w s ≡ true → s + (2 ^ (w + i) - 1 - (2 ^ w - 1)) ≡ sign_extended i w s
filled_is w i s h = rw h (omega (arith, pow_pos w, pow_pos (w + i)))

-- the lowest bits moved up
pub moved : (s w k : ℕ) → k ≤ w → s % 2 ^ (w - k) * 2 ^ k ≡ s * 2 ^ k % 2 ^ w
moved s w k h =
    let e : w - k + k ≡ w = omega arith in
    let split = mod-pow-add (s * 2 ^ k) (w - k) k in
    let down = shl-shr s k in
    let none = mul-mod_left s (2 ^ k) in
    let all : s * 2 ^ k % 2 ^ (w - k + k) ≡ s % 2 ^ (w - k) * 2 ^ k + 0 = rw (split, down, none) refl in
    let all' : s * 2 ^ k % 2 ^ w ≡ s % 2 ^ (w - k) * 2 ^ k + 0 = subst (λ (n : ℕ). s * 2 ^ k % 2 ^ n ≡ s % 2 ^ (w - k) * 2 ^ k + 0) e all in
    omega (arith, all')

-- the top field needs no mask
pub top_field : (s w k : ℕ) → k ≤ w → s < 2 ^ w → s / 2 ^ k % 2 ^ (w - k) ≡ s / 2 ^ k
top_field s w k h below =
    let e : w ≡ w - k + k = omega arith in
    shr_mod (w - k) k (subst (λ (n : ℕ). s < 2 ^ n) e below)

upper : (s w k : ℕ) → k ≤ w → s < 2 ^ w → s / 2 ^ (w - k) % 2 ^ k ≡ s / 2 ^ (w - k)
upper s w k h below =
    let e : w - (w - k) ≡ k = omega arith in
    subst (λ (n : ℕ). s / 2 ^ (w - k) % 2 ^ n ≡ s / 2 ^ (w - k)) e (top_field s w (w - k) (omega arith) below)

turned_left : (s w k : ℕ) → k ≤ w → s < 2 ^ w → s / 2 ^ 0 % 2 ^ (w - k) * 2 ^ k + s / 2 ^ (w - k) % 2 ^ k ≡ s * 2 ^ k % 2 ^ w + s / 2 ^ (w - k)
turned_left s w k h below =
    let all = div-one s in
    rw (all, upper s w k h below, moved s w k h) refl

turned_right : (s w k : ℕ) → k ≤ w → s < 2 ^ w → s / 2 ^ 0 % 2 ^ k * 2 ^ (w - k) + s / 2 ^ k % 2 ^ (w - k) ≡ s / 2 ^ k + s % 2 ^ k * 2 ^ (w - k)
turned_right s w k h below =
    let all = div-one s in
    rw (all, top_field s w k h below) (omega arith)

-- the two parts of a rotated vector
pub rotates_left : (i w s a m b n : ℕ) → valid (Bits w s) ≡ true → Bits a m ≡ Bits (w - i % w) (s / 2 ^ 0 % 2 ^ (w - i % w)) → Bits b n ≡ Bits (i % w) (s / 2 ^ (w - i % w) % 2 ^ (i % w)) → Bits (a + b) (joined b m n) ≡ Bits w (rotated_left i w s)
rotates_left i w s a m b n v e f =
    let fit = is_fit w s v in
    let small : i % w ≤ w = omega (arith, mod_below i w (omega (arith, fit.0))) in
    let sum : w - i % w + i % w ≡ w = omega arith in
    rw (ap width e, ap number e, ap width f, ap number f, sum) (ap (Bits w) (turned_left s w (i % w) small fit.2))

pub rotates_right : (i w s a m b n : ℕ) → valid (Bits w s) ≡ true → Bits a m ≡ Bits (i % w) (s / 2 ^ 0 % 2 ^ (i % w)) → Bits b n ≡ Bits (w - i % w) (s / 2 ^ (i % w) % 2 ^ (w - i % w)) → Bits (a + b) (joined b m n) ≡ Bits w (rotated_right i w s)
rotates_right i w s a m b n v e f =
    let fit = is_fit w s v in
    let small : i % w ≤ w = omega (arith, mod_below i w (omega (arith, fit.0))) in
    let sum : i % w + (w - i % w) ≡ w = omega arith in
    rw (ap width e, ap number e, ap width f, ap number f, sum) (ap (Bits w) (turned_right s w (i % w) small fit.2))
