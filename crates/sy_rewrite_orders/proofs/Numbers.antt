-- The numbers of operators on vectors, as sums modulo powers of two.
use Rattle.std.proofs.Common.{◌≡◌, ℕ, Bool, true, false, ◌+◌, ◌-◌, ◌*◌, ◌%◌, ◌^◌, ◌<◌, cond, arith, refl, ap, sym, ◌∙◌, zero, suc}
use Rattle.std.proofs.Math.Nat.{add-mod_right, add-mul-mod_self_right, mod-eq_of_lt, zero-mod}
use Rattle.sy_bits_sums.specs.Polynomials.{Agree}
use Rattle.sy_bits_sums.proofs.Agreeing.{agree-same, agree-sym, agree-trans, agree-add, agree-mul}

-- two numbers that are the same as a third
of-sum : (w n m r : ℕ) → Agree w n m → Agree w r m → n % 2 ^ w ≡ r % 2 ^ w
of-sum w n m r e f = e.is ∙ sym f.is

pub sum-is : (w s t a b r : ℕ) → Agree w s a → Agree w t b → Agree w r (a + b * 1) → (s + t) % 2 ^ w ≡ r % 2 ^ w
sum-is w s t a b r e f g =
    let one : a + b ≡ a + b * 1 = omega arith in
    of-sum w (s + t) (a + b * 1) r (agree-trans w (s + t) (a + b) (a + b * 1) (agree-add w s a t b e f) (agree-same w (a + b) (a + b * 1) one)) g

pub product-is : (w s t a b r : ℕ) → Agree w s a → Agree w t b → Agree w r (a * b) → (s * t) % 2 ^ w ≡ r % 2 ^ w
product-is w s t a b r e f g = of-sum w (s * t) (a * b) r (agree-mul w s a t b e f) g

step : (s t u q p : ℕ) → p ≡ q + t → t ≡ u + 1 → s + t * (p - 1) ≡ (s + q) + u * p
step s t u q p e f =
    let g : (q + (u + 1)) - 1 ≡ q + u = omega arith in
    rw (e, f, g) (omega arith)

-- a number less another one is the number with so many times the greatest number
minus : (w s t : ℕ) → t < 2 ^ w → Agree w (s + (2 ^ w - t)) (s + t * (2 ^ w - 1))
minus w s zero h =
    let e : s + (2 ^ w - 0) ≡ s + 2 ^ w = omega arith in
    let f : s ≡ s + 0 * (2 ^ w - 1) = omega arith in
    record { is = ap (λ n. n % 2 ^ w) e ∙ add-mod_right s (2 ^ w) ∙ ap (λ n. n % 2 ^ w) f }
minus w s (suc u) h =
    let q : ℕ = 2 ^ w - suc u in
    let e : 2 ^ w ≡ (2 ^ w - suc u) + suc u = omega (arith, h) in
    let f : suc u ≡ u + 1 = omega arith in
    let g : s + suc u * (2 ^ w - 1) ≡ (s + (2 ^ w - suc u)) + u * 2 ^ w = step s (suc u) u (2 ^ w - suc u) (2 ^ w) e f in
    record { is = sym (ap (λ n. n % 2 ^ w) g ∙ add-mul-mod_self_right (s + (2 ^ w - suc u)) u (2 ^ w)) }

pub difference-is : (w s t a b r ones : ℕ) → t < 2 ^ w → ones ≡ 2 ^ w - 1 → Agree w s a → Agree w t b → Agree w r (a + b * ones) → (s + (2 ^ w - t)) % 2 ^ w ≡ r % 2 ^ w
difference-is w s t a b r ones h greatest e f g =
    let m : Agree w (s + (2 ^ w - t)) (s + t * ones) = rw greatest (minus w s t h) in
    of-sum w (s + (2 ^ w - t)) (a + b * ones) r
    (agree-trans w (s + (2 ^ w - t)) (s + t * ones) (a + b * ones) m (agree-add w s a (t * ones) (b * ones) e (agree-mul w t b ones ones f (agree-same w ones ones refl)))) g

pub negation-is : (w t z b r ones : ℕ) → t < 2 ^ w → ones ≡ 2 ^ w - 1 → Agree w z 0 → Agree w t b → Agree w r (z + b * ones) → (2 ^ w - t) % 2 ^ w ≡ r % 2 ^ w
negation-is w t z b r ones h greatest e f g =
    let zero-first : 2 ^ w - t ≡ 0 + (2 ^ w - t) = omega arith in
    ap (λ n. n % 2 ^ w) zero-first ∙ difference-is w 0 t z b r ones h greatest (agree-sym w z 0 e) f g

pub inversion-is : (w t z b r ones : ℕ) → t < 2 ^ w → ones ≡ 2 ^ w - 1 → Agree w z ones → Agree w t b → Agree w r (z + b * ones) → 2 ^ w - 1 - t ≡ r % 2 ^ w
inversion-is w t z b r ones h greatest e f g =
    let around : (2 ^ w - 1 - t) + 2 ^ w ≡ ones + (2 ^ w - t) = rw greatest (omega (arith, h)) in
    let small : 2 ^ w - 1 - t < 2 ^ w = omega (arith, h) in
    sym (mod-eq_of_lt small) ∙ sym (add-mod_right (2 ^ w - 1 - t) (2 ^ w)) ∙ ap (λ n. n % 2 ^ w) around ∙ difference-is w ones t z b r ones h greatest (agree-sym w z ones e) f g

pub moved-is : (w s n z a r factor : ℕ) (far : Bool) → factor ≡ cond far 0 (2 ^ n) → Agree w z 0 → Agree w s a → Agree w r (z + a * factor) → cond far 0 ((s * 2 ^ n) % 2 ^ w) ≡ r % 2 ^ w
moved-is w s n z a r factor true is e f g =
    let none : z + a * factor ≡ z = rw is (omega arith) in
    sym (g.is ∙ ap (λ n. n % 2 ^ w) none ∙ e.is ∙ zero-mod (2 ^ w))
moved-is w s n z a r factor false is e f g =
    let m : Agree w (s * 2 ^ n) (a * factor) = rw is (agree-mul w s a (2 ^ n) (2 ^ n) f (agree-same w (2 ^ n) (2 ^ n) refl)) in
    let zero-first : s * 2 ^ n ≡ 0 + s * 2 ^ n = omega arith in
    of-sum w (s * 2 ^ n) (z + a * factor) r
    (agree-trans w (s * 2 ^ n) (0 + s * 2 ^ n) (z + a * factor) (agree-same w (s * 2 ^ n) (0 + s * 2 ^ n) zero-first)
    (agree-add w 0 z (s * 2 ^ n) (a * factor) (agree-sym w z 0 e) m)) g
