-- Binary digits.
use Rattle.std.proofs.Common.{◌≡◌, ℕ, zero, suc, ◌+◌, ◌<◌, ◌≤◌, refl, ap, ◌∙◌, arith}
use Rattle.std.specs.Prelude.{◌^◌, ◌/◌, ◌-◌, ◌*◌, ◌==◌, if◌then◌else◌, false}
use Rattle.std.proofs.lemmas.Nat.{pow_pos, leading_length, leading_top}
use Rattle.std.specs.Int.Count.{count_leading_zeros}
use Rattle.sy_grammar_base.specs.Trees.{digits, digits_within}

none_of_zero : (fuel : ℕ) → digits_within fuel 0 ≡ 0
none_of_zero zero = refl
none_of_zero (suc fuel) = refl

pub one_more : (fuel n : ℕ) → 0 < n → digits_within (suc fuel) n ≡ suc (digits_within fuel (n / 2))
one_more fuel zero h = absurd (omega arith)
one_more fuel (suc n) h = let above : (suc n == 0) ≡ false = grind arith in ap (λ zero. if zero then 0 else suc (digits_within fuel (suc n / 2))) above

within : (fuel j n : ℕ) → n ≤ fuel → 2 ^ j ≤ n → n < 2 ^ suc j → digits_within fuel n ≡ suc j
within zero j n fits low high = absurd (omega (arith, pow_pos j))
within (suc fuel) zero n fits low high =
    let half : n / 2 ≡ 0 = omega arith in
    one_more fuel n (omega arith) ∙ ap suc (ap (digits_within fuel) half ∙ none_of_zero fuel)
within (suc fuel) (suc j) n fits low high =
    one_more fuel n (omega (arith, pow_pos j)) ∙ ap suc (within fuel j (n / 2) (omega (arith, pow_pos j)) (omega arith) (omega arith))

-- a number from 2 ^ j to below the next power has one digit more than j
pub digits_between : (j n : ℕ) → 2 ^ j ≤ n → n < 2 ^ suc j → digits n ≡ suc j
digits_between j n low high = within n j n (omega arith) low high

pub digits_zero : digits 0 ≡ 0
digits_zero = refl

-- what is left of a width above the leading zeros
pub digits_of : (k n : ℕ) → n < 2 ^ k → k - count_leading_zeros k n ≡ digits n
digits_of k zero h = let length = leading_length k 0 h in omega (arith, length.1, only_zero length.0 length.3)
  where
    only_zero : (m : ℕ) → 2 ^ m ≤ 2 * 0 + 1 → m ≡ 0
    only_zero zero h = refl
    only_zero (suc m) h = absurd (omega (arith, pow_pos m))
digits_of k (suc n) h =
    let top = leading_top k (suc n) (omega arith) h in
    omega (arith, top.1, digits_between top.0 (suc n) top.2 top.3)
