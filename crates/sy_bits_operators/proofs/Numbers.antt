-- The circuits' numbers are those of the operators.
use Rattle.std.specs.Prelude.{nat_le, nat_eq, if◌then◌else◌}
use Rattle.std.proofs.Common.{◌≡◌, ◌<◌, ◌≤◌, ◌^◌, ◌%◌, ◌*◌, ◌/◌, ◌+◌, ◌-◌, ℕ, zero, suc, Bool, true, false, cond, eqb, leb, not, ◌&&◌, ltb, arith, refl, ap, sym, subst, ◌∙◌, pos, ◌-ℤ◌, ◌+ℤ◌, ◌<ℤ◌, ◌≤ℤ◌, ℤ}
use Rattle.std.proofs.lemmas.Int.{ints}
use Rattle.std.proofs.lemmas.Nat.{pow_pos, pow-add, mod-pow-add, shl-shr}
use Rattle.std.proofs.lemmas.Bool.Decides.{nat_tests}
use Rattle.std.proofs.Math.Nat.{mod-eq_of_lt, div-eq_of_lt, mul-mod_left, add-mul-mod_self_right, pow-le-pow_right, pow-succ'}
use Rattle.sy_gates.specs.Arithmetic as gates
use Rattle.sy_gates.specs.Circuits.{xor}
use Rattle.sy_terms.specs.BitVectors as bv

same_if : {X : Type 0} (b : Bool) (x y : X) → cond b x y ≡ (if b then x else y)
same_if true x y = refl
same_if false x y = refl

pub quotient_is : (w s t : ℕ) → gates.quotient_of w s t ≡ bv.quotient w s t
quotient_is w s t = same_if (nat_eq t 0) (2 ^ w - 1) (s / t)

pub remainder_is : (w s t : ℕ) → gates.remainder_of s t ≡ bv.remainder w s t
remainder_is w s t = same_if (nat_eq t 0) s (s % t)

pub negative_is : (w s : ℕ) → gates.has_top_bit w s ≡ bv.negative w s
unfolding gates.has_top_bit
negative_is w s = refl

regrouped : (s t p : ℕ) → t ≤ p → s + p - t ≡ s + (p - t)
regrouped s t p h = omega arith

pub difference_is : (w s t : ℕ) → t < 2 ^ w → (s + 2 ^ w - t) % 2 ^ w ≡ bv.difference w s t
difference_is w s t h = ap (λ n. n % 2 ^ w) (regrouped s t (2 ^ w) (omega arith))

less_than : (p q s : ℕ) → 0 < q → leb q s ≡ true → s < p → p - s < p
less_than p q s z h k = grind (arith, nat_tests)

magnitude_by : (b : Bool) (w s : ℕ) → s < 2 ^ w → bv.negative w s ≡ b → cond b (gates.minus_vector w s) s ≡ (if b then 2 ^ w - s else s)
magnitude_by true w s h e = mod-eq_of_lt (less_than (2 ^ w) (2 ^ (w - 1)) s (pow_pos (w - 1)) e h)
magnitude_by false w s h e = refl

pub magnitude_is : (w s : ℕ) → s < 2 ^ w → gates.magnitude w s ≡ bv.magnitude w s
unfolding gates.has_top_bit
magnitude_is w s h = magnitude_by (bv.negative w s) w s h refl

-- the sign of a quotient

quotient_by : (a b : Bool) (w m n : ℕ) →
    cond (xor a b) (gates.minus_vector w (gates.quotient_of w m n)) (gates.quotient_of w m n)
    ≡ cond a (cond b (bv.quotient w m n) (bv.negated w (bv.quotient w m n))) (cond b (bv.negated w (bv.quotient w m n)) (bv.quotient w m n))
quotient_by true true w m n = quotient_is w m n
quotient_by true false w m n = ap (bv.negated w) (quotient_is w m n)
quotient_by false true w m n = ap (bv.negated w) (quotient_is w m n)
quotient_by false false w m n = quotient_is w m n

pub signed_quotient_is : (w s t : ℕ) → s < 2 ^ w → t < 2 ^ w → gates.signed_quotient w s t ≡ bv.signed_quotient w s t
unfolding gates.has_top_bit
signed_quotient_is w s t h k =
    let by : ℕ → ℕ → ℕ = λ m n. cond (xor (bv.negative w s) (bv.negative w t)) (gates.minus_vector w (gates.quotient_of w m n)) (gates.quotient_of w m n) in
    ap (λ m. by m (gates.magnitude w t)) (magnitude_is w s h)
    ∙ ap (λ n. by (bv.magnitude w s) n) (magnitude_is w t k)
    ∙ quotient_by (bv.negative w s) (bv.negative w t) w (bv.magnitude w s) (bv.magnitude w t)

remainder_by : (a : Bool) (w m n : ℕ) →
    cond a (gates.minus_vector w (gates.remainder_of m n)) (gates.remainder_of m n) ≡ (if a then bv.negated w (bv.remainder w m n) else bv.remainder w m n)
remainder_by true w m n = ap (bv.negated w) (remainder_is w m n)
remainder_by false w m n = remainder_is w m n

pub signed_remainder_is : (w s t : ℕ) → s < 2 ^ w → t < 2 ^ w → gates.signed_remainder w s t ≡ bv.signed_remainder w s t
unfolding gates.has_top_bit
signed_remainder_is w s t h k =
    let by : ℕ → ℕ → ℕ = λ m n. cond (bv.negative w s) (gates.minus_vector w (gates.remainder_of m n)) (gates.remainder_of m n) in
    ap (λ m. by m (gates.magnitude w t)) (magnitude_is w s h)
    ∙ ap (λ n. by (bv.magnitude w s) n) (magnitude_is w t k)
    ∙ remainder_by (bv.negative w s) w (bv.magnitude w s) (bv.magnitude w t)

pub signed_modulus_is : (w s t : ℕ) → s < 2 ^ w → t < 2 ^ w → gates.signed_modulo w s t ≡ bv.signed_modulus w s t
unfolding gates.has_top_bit
signed_modulus_is w s t h k =
    let by : ℕ → ℕ → ℕ = λ m n. gates.moved_to_sign w (bv.negative w s) (bv.negative w t) (gates.remainder_of m n) t in
    ap (λ m. by m (gates.magnitude w t)) (magnitude_is w s h)
    ∙ ap (λ n. by (bv.magnitude w s) n) (magnitude_is w t k)
    ∙ ap (λ u. gates.moved_to_sign w (bv.negative w s) (bv.negative w t) u t) (remainder_is w (bv.magnitude w s) (bv.magnitude w t))
    ∙ same_if (nat_eq (bv.remainder w (bv.magnitude w s) (bv.magnitude w t)) 0) 0
    (cond (bv.negative w s)
    (cond (bv.negative w t) (bv.negated w (bv.remainder w (bv.magnitude w s) (bv.magnitude w t))) (bv.sum w (bv.negated w (bv.remainder w (bv.magnitude w s) (bv.magnitude w t))) t))
    (cond (bv.negative w t) (bv.sum w (bv.remainder w (bv.magnitude w s) (bv.magnitude w t)) t) (bv.remainder w (bv.magnitude w s) (bv.magnitude w t))))

-- shifts past the width

at_least : (w t : ℕ) → nat_le w t ≡ true → w ≤ t
at_least w t e = grind (arith, nat_tests)

split_power : (w t : ℕ) → w ≤ t → 2 ^ t ≡ 2 ^ (t - w) * 2 ^ w
split_power w t h =
    let e : t ≡ t - w + w = omega arith in
    ap (λ n. 2 ^ n) e ∙ pow-add 2 (t - w) w

factored : (s p q : ℕ) → s * (p * q) ≡ s * p * q
factored s p q = omega arith

left_by : (b : Bool) (w s t : ℕ) → nat_le w t ≡ b → s * 2 ^ t % 2 ^ w ≡ (if b then 0 else s * 2 ^ t % 2 ^ w)
left_by true w s t e =
    ap (λ n. s * n % 2 ^ w) (split_power w t (at_least w t e))
    ∙ ap (λ n. n % 2 ^ w) (factored s (2 ^ (t - w)) (2 ^ w))
    ∙ mul-mod_left (s * 2 ^ (t - w)) (2 ^ w)
left_by false w s t e = refl

pub shifted_left_is : (w s t : ℕ) → s * 2 ^ t % 2 ^ w ≡ bv.shifted_left w s t
shifted_left_is w s t = left_by (nat_le w t) w s t refl

right_by : (b : Bool) (w s t : ℕ) → s < 2 ^ w → nat_le w t ≡ b → s / 2 ^ t ≡ (if b then 0 else s / 2 ^ t)
right_by true w s t h e =
    let grows : 2 ^ w ≤ 2 ^ t = pow-le-pow_right (omega arith) (at_least w t e) in
    div-eq_of_lt (omega (arith, grows))
right_by false w s t h e = refl

pub shifted_right_is : (w s t : ℕ) → s < 2 ^ w → s / 2 ^ t ≡ bv.shifted_right w s t
shifted_right_is w s t h = right_by (nat_le w t) w s t h refl

inverted-below : (w s : ℕ) → bv.inverted w s < 2 ^ w
inverted-below w s = omega (arith, pow_pos w)

signed_right_by : (b : Bool) (w s t : ℕ) → s < 2 ^ w →
    cond b (2 ^ w - 1 - (2 ^ w - 1 - s) / 2 ^ t) (s / 2 ^ t) ≡ (if b then bv.inverted w (bv.shifted_right w (bv.inverted w s) t) else bv.shifted_right w s t)
signed_right_by true w s t h = ap (bv.inverted w) (shifted_right_is w (bv.inverted w s) t (inverted-below w s))
signed_right_by false w s t h = shifted_right_is w s t h

pub shifted_right_signed_is : (w s t : ℕ) → s < 2 ^ w → gates.signed_shift_down w s t ≡ bv.shifted_right_signed w s t
unfolding gates.has_top_bit
shifted_right_signed_is w s t h = signed_right_by (bv.negative w s) w s t h

-- copies and more bits

one_more : (a p q c : ℕ) → a * (p * q) + (c * q + a) ≡ (a * p + c) * q + a
one_more a p q c = omega arith

copies_below : (w a n : ℕ) → gates.copies_of w a (suc n) ≡ gates.copies_of w a n * 2 ^ w + a
copies_below w a zero =
    let e : zero * w ≡ 0 = omega arith in
    let one : a * 2 ^ 0 + 0 ≡ 0 * 2 ^ w + a = omega arith in
    ap (λ k. a * 2 ^ k + 0) e ∙ one
copies_below w a (suc n) =
    let e : suc n * w ≡ n * w + w = omega arith in
    let p : 2 ^ (suc n * w) ≡ 2 ^ (n * w) * 2 ^ w = ap (λ k. 2 ^ k) e ∙ pow-add 2 (n * w) w in
    ap (λ k. a * k + gates.copies_of w a (suc n)) p
    ∙ ap (λ k. a * (2 ^ (n * w) * 2 ^ w) + k) (copies_below w a n)
    ∙ one_more a (2 ^ (n * w)) (2 ^ w) (gates.copies_of w a n)

pub repeated_is : (n w a : ℕ) → gates.copies_of w a n ≡ bv.repeated n w a
repeated_is zero w a = refl
repeated_is (suc n) w a = copies_below w a n ∙ ap (λ k. k * 2 ^ w + a) (repeated_is n w a)

ones_from : (p q s : ℕ) → q * p + s ≡ s + (p * (q + 1) - p)
ones_from p q s = omega arith

ones_above : (p q s : ℕ) → 0 < q → (q - 1) * p + s ≡ s + (p * q - p)
ones_above p q s h =
    let e : q - 1 + 1 ≡ q = omega arith in
    ones_from p (q - 1) s ∙ ap (λ n. s + (p * n - p)) e

extended_by : (b : Bool) (i w s : ℕ) → cond b (2 ^ i - 1) 0 * 2 ^ w + s ≡ (if b then s + (2 ^ (w + i) - 2 ^ w) else s)
extended_by true i w s = ones_above (2 ^ w) (2 ^ i) s (pow_pos i) ∙ ap (λ n. s + (n - 2 ^ w)) (sym (pow-add 2 w i))
extended_by false i w s = omega arith

pub sign_extended_is : (i w s : ℕ) (b : Bool) → b ≡ gates.has_top_bit w s → cond b (2 ^ i - 1) 0 * 2 ^ w + s ≡ bv.sign_extended i w s
unfolding gates.has_top_bit
sign_extended_is i w s b e = extended_by b i w s ∙ ap (λ c. if c then s + (2 ^ (w + i) - 2 ^ w) else s) e

-- two's complement order

alike : (a b : Bool) → (a ≡ true → b ≡ true) → (b ≡ true → a ≡ true) → a ≡ b
alike true b f g = sym (f refl)
alike false true f g = g refl
alike false false f g = refl

not_true : (a : Bool) → (a ≡ true → ⊥) → a ≡ false
not_true true f = absurd (f refl)
not_true false f = refl

unlike : (a b : Bool) → (a ≡ true → b ≡ false) → (b ≡ false → a ≡ true) → a ≡ not b
unlike a true f g = not_true a (λ e. let h = f e in cc)
unlike a false f g = g refl

equal_widths : (v w : ℕ) → v ≡ w → eqb v w ≡ true
equal_widths v w e = grind (arith, nat_tests)

double : (w : ℕ) → 1 ≤ w → 2 ^ w ≡ 2 * 2 ^ (w - 1)
double w h =
    let e : w ≡ suc (w - 1) = omega arith in
    ap (λ n. 2 ^ n) e ∙ pow-succ' 2 (w - 1)

offset : (b : Bool) (p q s : ℕ) → q ≡ 2 * p → 0 < p → s < q → leb p s ≡ b → pos ((s + p) % q) ≡ cond b (pos s -ℤ pos q) (pos s) +ℤ pos p
offset true p q s e z h k =
    let le : p ≤ s = at_least p s k in
    let split : s + p ≡ s - p + 1 * q = omega arith in
    let wrapped : (s + p) % q ≡ s - p = ap (λ n. n % q) split ∙ add-mul-mod_self_right (s - p) 1 q ∙ mod-eq_of_lt (omega arith) in
    ap pos wrapped ∙ omega (arith, ints)
offset false p q s e z h k =
    let less : s < p = grind (arith, nat_tests) in
    ap pos (mod-eq_of_lt (omega arith)) ∙ omega (arith, ints)

less_of : (a b : ℕ) → a < b → ltb a b ≡ true
less_of a b h = grind (arith, nat_tests)

of_less : (a b : ℕ) → ltb a b ≡ true → a < b
of_less a b h = grind (arith, nat_tests)

compared_by : (x y : ℤ) (a b p : ℕ) → pos a ≡ x +ℤ pos p → pos b ≡ y +ℤ pos p → (x <ℤ y → ltb a b ≡ true) × (ltb a b ≡ true → x <ℤ y)
compared_by x y a b p e f = (
  λ h. less_of a b (omega (arith, ints, e, f, h)),
  λ h. let l = of_less a b h in omega (arith, ints, e, f, l),
)

not_less : (a b : ℕ) → a ≤ b → ltb b a ≡ false
not_less a b h = grind (arith, nat_tests)

of_not_less : (a b : ℕ) → ltb b a ≡ false → a ≤ b
of_not_less a b h = grind (arith, nat_tests)

most_by : (x y : ℤ) (a b p : ℕ) → pos a ≡ x +ℤ pos p → pos b ≡ y +ℤ pos p → (x ≤ℤ y → ltb b a ≡ false) × (ltb b a ≡ false → x ≤ℤ y)
most_by x y a b p e f = (
  λ h. not_less a b (omega (arith, ints, e, f, h)),
  λ h. let l = of_not_less a b h in omega (arith, ints, e, f, l),
)

signed_most_is : (w s t : ℕ) → 1 ≤ w → s < 2 ^ w → t < 2 ^ w → (gates.signed_number w s ≤ℤ gates.signed_number w t → bv.signed_less w t s ≡ false) × (bv.signed_less w t s ≡ false → gates.signed_number w s ≤ℤ gates.signed_number w t)
unfolding gates.has_top_bit gates.signed_number
signed_most_is w s t h hs ht =
    most_by _ _ ((s + 2 ^ (w - 1)) % 2 ^ w) ((t + 2 ^ (w - 1)) % 2 ^ w) (2 ^ (w - 1))
    (offset (leb (2 ^ (w - 1)) s) (2 ^ (w - 1)) (2 ^ w) s (double w h) (pow_pos (w - 1)) hs refl)
    (offset (leb (2 ^ (w - 1)) t) (2 ^ (w - 1)) (2 ^ w) t (double w h) (pow_pos (w - 1)) ht refl)

pub signed_less_is : (w s t : ℕ) → 1 ≤ w → s < 2 ^ w → t < 2 ^ w → (gates.signed_number w s <ℤ gates.signed_number w t → bv.signed_less w s t ≡ true) × (bv.signed_less w s t ≡ true → gates.signed_number w s <ℤ gates.signed_number w t)
unfolding gates.has_top_bit gates.signed_number
signed_less_is w s t h hs ht =
    compared_by _ _ ((s + 2 ^ (w - 1)) % 2 ^ w) ((t + 2 ^ (w - 1)) % 2 ^ w) (2 ^ (w - 1))
    (offset (leb (2 ^ (w - 1)) s) (2 ^ (w - 1)) (2 ^ w) s (double w h) (pow_pos (w - 1)) hs refl)
    (offset (leb (2 ^ (w - 1)) t) (2 ^ (w - 1)) (2 ^ w) t (double w h) (pow_pos (w - 1)) ht refl)

pub less_is : (b : Bool) (w s t : ℕ) → 1 ≤ w → s < 2 ^ w → t < 2 ^ w → (b ≡ true → gates.signed_number w s <ℤ gates.signed_number w t) → (gates.signed_number w s <ℤ gates.signed_number w t → b ≡ true) → b ≡ bv.signed_less w s t
less_is b w s t h hs ht f g =
    let both = signed_less_is w s t h hs ht in
    alike b (bv.signed_less w s t) (λ e. both.0 (f e)) (λ e. g (both.1 e))

pub at_most_is : (b : Bool) (w s t : ℕ) → 1 ≤ w → s < 2 ^ w → t < 2 ^ w → (b ≡ true → gates.signed_number w s ≤ℤ gates.signed_number w t) → (gates.signed_number w s ≤ℤ gates.signed_number w t → b ≡ true) → b ≡ not (bv.signed_less w t s)
at_most_is b w s t h hs ht f g =
    let both = signed_most_is w s t h hs ht in
    unlike b (bv.signed_less w t s) (λ e. both.0 (f e)) (λ e. g (both.1 e))

-- the same vectors

pub same_numbers : (v w m n : ℕ) → v ≡ w → eqb m n ≡ (eqb v w && eqb m n)
same_numbers v w m n e = rw (equal_widths v w e) refl

-- the lower bits of a vector that is turned to the right

moved : (s w k : ℕ) → k ≤ w → s % 2 ^ (w - k) * 2 ^ k ≡ s * 2 ^ k % 2 ^ w
moved s w k h =
    let e : w - k + k ≡ w = omega arith in
    let split = mod-pow-add (s * 2 ^ k) (w - k) k in
    let down = shl-shr s k in
    let none = mul-mod_left s (2 ^ k) in
    let all : s * 2 ^ k % 2 ^ (w - k + k) ≡ s % 2 ^ (w - k) * 2 ^ k + 0 = rw (split, down, none) refl in
    let all' : s * 2 ^ k % 2 ^ w ≡ s % 2 ^ (w - k) * 2 ^ k + 0 = subst (λ (n : ℕ). s * 2 ^ k % 2 ^ n ≡ s % 2 ^ (w - k) * 2 ^ k + 0) e all in
    omega (arith, all')

pub rotated_right_is : (s w k : ℕ) → k ≤ w → s / 2 ^ k + s * 2 ^ (w - k) % 2 ^ w ≡ s / 2 ^ k + s % 2 ^ k * 2 ^ (w - k)
rotated_right_is s w k h =
    let e : w - (w - k) ≡ k = omega arith in
    let m = moved s w (w - k) (omega arith) in
    ap (λ n. s / 2 ^ k + n) (sym m ∙ ap (λ n. s % 2 ^ n * 2 ^ (w - k)) e)
