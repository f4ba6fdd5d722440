-- Kinds of fractions.
use Rattle.std.specs.Prelude.{◌≡◌, ◌≢◌, ◌&&◌, Bool, not, ℤ, pos, int_lt, nat_lt, Option, Some, None}
use Rattle.sy_frac.specs.Fraction.{Fraction, IsFloor}

-- a fraction that isn't negative
abbrev pub is_multiplier : Fraction → Bool
is_multiplier m = not (int_lt m.num (pos 0)) && nat_lt 0 m.den

abbrev pub is_below_one : Fraction → Bool
is_below_one m = int_lt m.num (pos m.den)

-- the fraction is whole; or it isn't, and k is the greatest whole number below it
abbrev pub Broken : Fraction → Option ℤ → Type 0
Broken f None = f.den ≡ 1
Broken f (Some k) = (f.den ≢ 1) × IsFloor f k
