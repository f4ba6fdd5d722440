-- What a theory's numbers stand for, and when an operator's value fits 128 bits.
use Rattle.std.specs.Prelude.{◌^◌, Bool, true, false, ◌&&◌, nat_le, nat_lt, List, [], ◌∷◌, ℤ, pos, negsuc, ◌+ℤ◌, ◌-ℤ◌, ◌*ℤ◌, neg_ℤ, Option, Some, None, if◌then◌else◌, int_le, ◌-◌}
use Rattle.sy_terms.specs.Values.{Val, Truth, Whole, Bits, whole}
use Rattle.sy_terms.specs.Integers as int
use Rattle.sy_terms.specs.declared.op.Op.{Op}
use Rattle.sy_terms.specs.declared.op.Op.TheVariants as ops
use Rattle.sy_terms.specs.declared.sort.Sort.{Sort}
use Rattle.sy_terms.specs.declared.sort.Sort.TheVariants as sorts

-- the sort of a value
abbrev pub sort_of_value : Val → Sort
sort_of_value (Truth b) = sorts.Bool
sort_of_value (Whole z) = sorts.Int
sort_of_value (Bits w n) = sorts.Bits w

-- a value of its sort: a vector has from 1 to 64 bits
abbrev pub valid : Val → Bool
valid (Truth b) = true
valid (Whole z) = true
valid (Bits w n) = nat_le 1 w && (nat_le w 64 && nat_lt n (2 ^ w))

-- the whole number that a value stands for
abbrev pub whole_number : Val → ℤ
whole_number (Whole z) = z
whole_number (Bits w n) = pos n
whole_number (Truth b) = pos 0

-- the value of the sort that a whole number is, where there is one
abbrev pub value_at : Sort → ℤ → Option Val
value_at sorts.Int z = Some (Whole z)
value_at (sorts.Bits w) (pos n) = if nat_le 1 w && (nat_le w 64 && nat_lt n (2 ^ w)) then Some (Bits w n) else None
value_at (sorts.Bits w) (negsuc n) = None
value_at sorts.Bool z = None

-- lies in -2^127 to 2^127 - 1
abbrev pub fits_128 : ℤ → Bool
fits_128 z = int_le (neg_ℤ (pos (2 ^ 127))) z && int_le z (pos (2 ^ 127 - 1))

-- each partial value, from the left, fits
abbrev pub partials_fit : (ℤ → ℤ → ℤ) → ℤ → List Val → Bool
partials_fit f x [] = true
partials_fit f x (y ∷ rest) = fits_128 (f x (whole y)) && partials_fit f (f x (whole y)) rest

abbrev pub from_left_fits : (ℤ → ℤ → ℤ) → List Val → Bool
from_left_fits f [] = true
from_left_fits f (x ∷ rest) = partials_fit f (whole x) rest

abbrev pub one_fits : (ℤ → ℤ) → List Val → Bool
one_fits f (x ∷ []) = fits_128 (f (whole x))
one_fits f _ = true

-- the operator's value and its partial values fit 128 bits with a sign
unfoldable pub fits : Op → List Val → Bool
fits ops.Neg values = one_fits neg_ℤ values
fits ops.Abs values = one_fits int.absolute values
fits ops.Sub values = from_left_fits ◌-ℤ◌ values
fits ops.Add values = from_left_fits ◌+ℤ◌ values
fits ops.Mul values = from_left_fits ◌*ℤ◌ values
fits ops.Div values = from_left_fits int.whole_quotient values
fits _ values = true

-- the operators of the theory Core
abbrev pub in_core : Op → Bool
in_core ops.Not = true
in_core ops.And = true
in_core ops.Or = true
in_core ops.Xor = true
in_core ops.Implies = true
in_core ops.Equal = true
in_core ops.Distinct = true
in_core ops.Ite = true
in_core _ = false

-- the operators of the theory Ints
abbrev pub in_ints : Op → Bool
in_ints ops.Neg = true
in_ints ops.Sub = true
in_ints ops.Add = true
in_ints ops.Mul = true
in_ints ops.Div = true
in_ints ops.Mod = true
in_ints ops.Abs = true
in_ints ops.Le = true
in_ints ops.Lt = true
in_ints ops.Ge = true
in_ints ops.Gt = true
in_ints _ = false
