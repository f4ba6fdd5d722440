-- Polynomials over numbered values, modulo powers of two.
use Rattle.std.specs.Prelude.{ℕ, ◌*◌, ◌%◌, ◌^◌, ◌≡◌, List, [], ◌∷◌}
use Rattle.std.specs.List.{sum_by}
use Rattle.sy_bits_sums.specs.declared.monomial.Monomial.{Monomial}

-- the product of the values at some places
abbrev pub product : (ℕ → ℕ) → List ℕ → ℕ
product values [] = 1
product values (place ∷ places) = values place * product values places

-- a coefficient times its values
abbrev pub monomial_value : (ℕ → ℕ) → Monomial → ℕ
monomial_value values monomial = monomial.coefficient * product values monomial.factors.items

abbrev pub total : (ℕ → ℕ) → List Monomial → ℕ
total values monomials = sum_by (monomial_value values) monomials

-- two numbers are the same modulo 2 to the power of the width
pub record Agree (width a b : ℕ) : Type 0 where
  pub is : a % 2 ^ width ≡ b % 2 ^ width
