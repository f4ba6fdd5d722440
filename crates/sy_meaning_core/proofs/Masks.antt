-- The greatest number of a width, as a mask, and when a word is valid.
use Rattle.std.proofs.Common.{arith, ap, ◌∙◌, ◌≡◌, ◌<◌, ◌≤◌, ◌^◌, ◌%◌, true, ℕ, ◌-◌, ◌/◌, bit_and}
use Rattle.std.specs.Prelude.{nat_le, nat_lt, ◌&&◌}
use Rattle.std.proofs.lemmas.Bool.Decides.{nat_tests}
use Rattle.std.proofs.lemmas.Nat.Bits.{ones_shr}
use Rattle.std.proofs.lemmas.Nat.{pow_pos, and_mask, mod_below}
use Rattle.sy_terms.specs.Theories.{valid}
use Rattle.sy_terms.specs.Values.{Bits}

-- the greatest number of a width
pub greatest : (w : ℕ) → w ≤ 64 → 18446744073709551615 / 2 ^ (64 - w) ≡ 2 ^ w - 1
greatest w h =
    let same : 64 - (64 - w) ≡ w = omega arith in
    ones_shr 64 (64 - w) (omega arith) ∙ ap (λ (k : ℕ). 2 ^ k - 1) same

-- a mask keeps the lowest bits
pub masked : (n w : ℕ) → w ≤ 64 → bit_and n (18446744073709551615 / 2 ^ (64 - w)) ≡ n % 2 ^ w
masked n w h = ap (bit_and n) (greatest w h) ∙ and_mask n w

tests : (w b p : ℕ) → 1 ≤ w → w ≤ 64 → b < p → (nat_le 1 w && (nat_le w 64 && nat_lt b p)) ≡ true
tests w b p h k m = grind (arith, nat_tests)

-- a vector of from 1 to 64 bits
pub fits : (w b : ℕ) → 1 ≤ w → w ≤ 64 → b < 2 ^ w → valid (Bits w b) ≡ true
fits w b h k m = tests w b (2 ^ w) h k m

tested : (w b p : ℕ) → (nat_le 1 w && (nat_le w 64 && nat_lt b p)) ≡ true → (1 ≤ w) × (w ≤ 64) × (b < p)
tested w b p h = grind (arith, nat_tests)

pub is_fit : (w b : ℕ) → valid (Bits w b) ≡ true → (1 ≤ w) × (w ≤ 64) × (b < 2 ^ w)
is_fit w b h = tested w b (2 ^ w) h

pub lowest_fits : (w n : ℕ) → 1 ≤ w → w ≤ 64 → valid (Bits w (n % 2 ^ w)) ≡ true
lowest_fits w n h k = fits w (n % 2 ^ w) h k (mod_below n (2 ^ w) (pow_pos w))
