-- Operations on fractions in lowest terms, where each number that they form fits.
use Rattle.std.specs.Prelude.{ℕ, zero, suc, ◌/◌, ◌%◌, ◌^◌, Bool, cond, ◌&&◌, ℤ, pos, ◌*ℤ◌, unsigned_abs, nat_lt, nat_eq, Option, Some, None}
use Rattle.std.specs.Option.{option_and_then}
use Rattle.std.specs.Int.{int_div_euclid}
use Rattle.sy_frac.specs.Fraction.{Fraction, signed_of, opposite_of, sum_over}

-- the magnitude is at most 2^127 - 1
abbrev pub whole_fits : ℤ → Bool
whole_fits n = nat_lt (unsigned_abs n) (2 ^ 127)

-- Euclid's remainders, at most so many
unfoldable pub gcd_within : ℕ → ℕ → ℕ → ℕ
gcd_within zero a b = a
gcd_within (suc steps) a zero = a
gcd_within (suc steps) a (suc b) = gcd_within steps (suc b) (a % suc b)

-- the greatest common divisor
unfoldable pub gcd : ℕ → ℕ → ℕ
gcd a b = gcd_within (suc b) a b

-- n divided by d, in lowest terms
unfoldable pub lowest : ℤ → ℤ → Fraction
lowest n d =
    let common : ℕ = gcd (unsigned_abs n) (unsigned_abs d) in
    record { num = signed_of (opposite_of n d) (unsigned_abs n / common); den = unsigned_abs d / common }

-- n divided by d, where all fits
abbrev pub exact : Bool → ℤ → ℤ → Option Fraction
exact all_fits n d = cond all_fits (Some (lowest n d)) None

abbrev pub checked_whole : ℤ → Option Fraction
checked_whole n = exact (whole_fits n) n (pos 1)

abbrev pub fraction_sum : Fraction → Fraction → Option Fraction
fraction_sum f g = exact (whole_fits (f.num *ℤ pos g.den) && (whole_fits (g.num *ℤ pos f.den) && (whole_fits (pos f.den *ℤ pos g.den) && whole_fits (sum_over f g)))) (sum_over f g) (pos f.den *ℤ pos g.den)

abbrev pub fraction_product : Fraction → Fraction → Option Fraction
fraction_product f g = exact (whole_fits (f.num *ℤ g.num) && whole_fits (pos f.den *ℤ pos g.den)) (f.num *ℤ g.num) (pos f.den *ℤ pos g.den)

abbrev pub fraction_quotient : Fraction → Fraction → Option Fraction
fraction_quotient f g = exact (whole_fits (f.num *ℤ pos g.den) && whole_fits (pos f.den *ℤ g.num)) (f.num *ℤ pos g.den) (pos f.den *ℤ g.num)

-- m times a whole number
unfoldable pub whole_multiple : Fraction → ℤ → Option Fraction
whole_multiple m n = option_and_then (λ f. fraction_product m f) (checked_whole n)

-- and a fraction
unfoldable pub checked_plus_multiple : Fraction → ℤ → Fraction → Option Fraction
checked_plus_multiple m n f = option_and_then (λ g. fraction_sum g f) (whole_multiple m n)

-- a fraction divided by a whole number
unfoldable pub over_whole : ℤ → Fraction → Option Fraction
over_whole d f = option_and_then (λ g. fraction_quotient f g) (checked_whole d)

-- the greatest whole number that isn't above the fraction
abbrev pub floor : Fraction → ℤ
floor f = int_div_euclid f.num (pos f.den)

abbrev pub is_whole : Fraction → Bool
is_whole f = nat_eq f.den 1
