-- Numbers by how many binary digits they have.
use Rattle.std.proofs.Common.{◌≡◌, ℕ, zero, suc, ◌<◌, ◌≤◌, refl, arith}
use Rattle.std.specs.Prelude.{◌^◌, ◌/◌}
use Rattle.sy_grammar_base.specs.Trees.{digits, digits_within}
use Rattle.sy_grammar_sizes.proofs.BinaryDigits.{one_more}

none : (fuel n : ℕ) → n ≤ fuel → digits_within fuel n ≡ 0 → n ≡ 0
none zero n fits e = omega arith
none (suc fuel) zero fits e = refl
none (suc fuel) (suc n) fits e = absurd (let next = one_more fuel (suc n) (omega arith) in omega (arith, next, e))

some : (fuel j n : ℕ) → n ≤ fuel → digits_within fuel n ≡ suc j → (2 ^ j ≤ n) × (n < 2 ^ suc j)
some zero j n fits e = absurd (omega (arith, e))
some (suc fuel) j zero fits e = absurd (omega (arith, e))
some (suc fuel) zero (suc n) fits e =
    let next = one_more fuel (suc n) (omega arith) in
    let half = none fuel (suc n / 2) (omega arith) (omega (arith, next, e)) in
    (omega arith, omega (arith, half))
some (suc fuel) (suc j) (suc n) fits e =
    let next = one_more fuel (suc n) (omega arith) in
    let rest = some fuel j (suc n / 2) (omega arith) (omega (arith, next, e)) in
    (omega (arith, rest.0), omega (arith, rest.1))

-- a number without digits is 0
pub no_digits : (n : ℕ) → digits n ≡ 0 → n ≡ 0
no_digits n e = none n n (omega arith) e

-- a number with one digit more than j lies between two powers
pub some_digits : (j n : ℕ) → digits n ≡ suc j → (2 ^ j ≤ n) × (n < 2 ^ suc j)
some_digits j n e = some n j n (omega arith) e
