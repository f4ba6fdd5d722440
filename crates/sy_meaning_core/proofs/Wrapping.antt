-- Numbers of 64 bits that wrap, modulo two to a width.
use Rattle.std.specs.Prelude.{nat_le}
use Rattle.std.proofs.Common.{true, false, arith, ap, sym, ◌∙◌, refl, ◌≡◌, ◌<◌, ◌≤◌, ◌^◌, ◌%◌, ◌*◌, ◌+◌, ◌-◌, ℕ, subst}
use Rattle.std.proofs.lemmas.Nat.{pow_pos, pow-add}
use Rattle.std.proofs.lemmas.Bool.Decides.{nat_tests}
use Rattle.std.proofs.Math.Pow.{mod-mod-pow}
use Rattle.std.proofs.Math.Nat.{add-mul-mod_self_right, mod-eq_of_lt}
use Rattle.sy_terms.specs.Values.{Bits}
use Rattle.sy_terms.specs.Theories.{valid}
use Rattle.sy_terms.specs.BitVectors.{negative, magnitude}
use Rattle.sy_meaning_core.proofs.Masks.{is_fit}

-- 64 bits, and then the lowest of them
pub mod_64 : (n w : ℕ) → w ≤ 64 → n % 2 ^ 64 % 2 ^ w ≡ n % 2 ^ w
mod_64 n w h =
    let e : 64 - w + w ≡ 64 = omega arith in
    subst (λ (k : ℕ). n % 2 ^ k % 2 ^ w ≡ n % 2 ^ w) e (mod-mod-pow n (64 - w) w)

-- 2 ^ 64 as a multiple
whole : (w : ℕ) → w ≤ 64 → 2 ^ (64 - w) * 2 ^ w ≡ 2 ^ 64
whole w h =
    let e : 64 - w + w ≡ 64 = omega arith in
    sym (pow-add 2 (64 - w) w) ∙ ap (λ (k : ℕ). 2 ^ k) e

wrapped : (a b p r m : ℕ) → b < p → (r + 1) * p ≡ m → a + (m - b) ≡ a + (p - b) + r * p
wrapped a b p r m h e = omega (arith, e)

-- a difference that wraps
pub wrap_sub : (a b w : ℕ) → b < 2 ^ w → w ≤ 64 → (a + (2 ^ 64 - b)) % 2 ^ 64 % 2 ^ w ≡ (a + (2 ^ w - b)) % 2 ^ w
wrap_sub a b w h k =
    let more : 2 ^ (64 - w) - 1 + 1 ≡ 2 ^ (64 - w) = omega (arith, pow_pos (64 - w)) in
    let times : (2 ^ (64 - w) - 1 + 1) * 2 ^ w ≡ 2 ^ 64 = ap (λ (q : ℕ). q * 2 ^ w) more ∙ whole w k in
    mod_64 (a + (2 ^ 64 - b)) w k
    ∙ ap (λ (n : ℕ). n % 2 ^ w) (wrapped a b (2 ^ w) (2 ^ (64 - w) - 1) (2 ^ 64) h times)
    ∙ add-mul-mod_self_right (a + (2 ^ w - b)) (2 ^ (64 - w) - 1) (2 ^ w)

pub wrap_neg : (b w : ℕ) → b < 2 ^ w → w ≤ 64 → (0 + (2 ^ 64 - b)) % 2 ^ 64 % 2 ^ w ≡ (2 ^ w - b) % 2 ^ w
wrap_neg b w h k =
    let right : 0 + (2 ^ w - b) ≡ 2 ^ w - b = omega arith in
    wrap_sub 0 b w h k ∙ ap (λ (n : ℕ). n % 2 ^ w) right

less_positive : (p q s : ℕ) → 0 < q → nat_le q s ≡ true → s < p → p - s < p
less_positive p q s z h k = grind (arith, nat_tests)

-- the absolute value of a negative number
pub magnitude_of : (w s : ℕ) → valid (Bits w s) ≡ true → negative w s ≡ true → (2 ^ w - s) % 2 ^ w ≡ magnitude w s
magnitude_of w s v h =
    let fit = is_fit w s v in
    rw h (mod-eq_of_lt (less_positive (2 ^ w) (2 ^ (w - 1)) s (pow_pos (w - 1)) h fit.2))

pub magnitude_same : (w s : ℕ) → negative w s ≡ false → s ≡ magnitude w s
magnitude_same w s h = rw h refl
