-- Whole numbers and fractions in text: numerals, `(- n)`, `min` for -2^127, and `(/ a b)`.
use Rattle.std.specs.Prelude.{ℕ, zero, suc, ◌+◌, ◌-◌, ◌^◌, ◌<◌, ℤ, pos, negsuc, Option, Some, None, option_and_then, nat_eq, nat_lt, bytes_eq, codes, if◌then◌else◌}
use Rattle.std.specs.Option.{option_map}
use Rattle.sy_text_items.specs.Items.{Item, leaf, group, Items, none, more}
use Rattle.sy_text_items.specs.declared.atom.Atom.{Atom}
use Rattle.sy_text_items.specs.declared.atom.Atom.TheVariants as atoms
use Rattle.sy_forms_items.specs.Parts.{numeral, is_symbol}
use Rattle.sy_frac.specs.Fraction.{Fraction}
use Rattle.sy_proof.specs.Lists.{below, nowhere, number_item, word_item}

-- a number below 2 ^ 32
abbrev pub small_in : Item → Option ℕ
small_in item = below (2 ^ 32) (numeral item)

-- ---- whole numbers of 128 bits
-- minus a number above 0
abbrev pub opposite : ℤ → Option ℤ
opposite (pos zero) = None
opposite (pos (suc n)) = Some (negsuc n)
opposite (negsuc n) = None

-- - and a number of at least 1
abbrev pub negative_in : Items → Option ℤ
negative_in (more sign (more n none)) = if is_symbol (codes "-") sign then option_and_then opposite (option_map pos (below (2 ^ 127) (numeral n))) else None
negative_in _ = None

abbrev pub whole_atom : Atom → Option ℤ
whole_atom (atoms.Numeral n) = option_map pos (below (2 ^ 127) (Some n))
whole_atom (atoms.Symbol word) = if bytes_eq word (codes "min") then Some (negsuc (2 ^ 127 - 1)) else None
whole_atom _ = None

abbrev pub whole_in : Item → Option ℤ
whole_in (leaf atom place) = whole_atom atom
whole_in (group parts place) = negative_in parts

abbrev pub whole_item : ℤ → Item
whole_item (pos n) = number_item n
whole_item (negsuc n) =
    if nat_eq (n + 1) (2 ^ 127) then word_item (codes "min")
    else group (more (word_item (codes "-")) (more (number_item (n + 1)) none)) nowhere

-- ---- fractions
-- a fraction's numbers
abbrev pub parts_of : Fraction → ℤ × ℤ
parts_of fraction = (fraction.num, pos fraction.den)

abbrev pub from_two : Option ℕ → Option ℕ
from_two None = None
from_two (Some n) = if nat_lt 1 n then Some n else None

-- a denominator is at least 2
abbrev pub denominator_in : Item → Option ℕ
denominator_in item = from_two (below (2 ^ 127) (numeral item))

abbrev pub fraction_by : Option ℤ → Option ℕ → Option Fraction
fraction_by (Some num) (Some den) = Some (record { num = num; den = den })
fraction_by (Some num) None = None
fraction_by None den = None

abbrev pub quotient_in : Items → Option Fraction
quotient_in (more sign (more upper (more lower none))) = if is_symbol (codes "/") sign then fraction_by (whole_in upper) (denominator_in lower) else None
quotient_in _ = None

-- a whole number over 1, or else the quotient
abbrev pub whole_or : Option ℤ → Option Fraction → Option Fraction
whole_or None quotient = quotient
whole_or (Some whole) quotient = Some (record { num = whole; den = 1 })

-- a fraction, which needn't be in lowest terms
abbrev pub fraction_in : Item → Option Fraction
fraction_in (leaf atom place) = whole_or (whole_atom atom) None
fraction_in (group parts place) = whole_or (negative_in parts) (quotient_in parts)

abbrev pub quotient_item : ℤ → ℕ → Item
quotient_item num den = group (more (word_item (codes "/")) (more (whole_item num) (more (number_item den) none))) nowhere

abbrev pub fraction_item : Fraction → Item
fraction_item fraction = if nat_eq fraction.den 1 then whole_item fraction.num else quotient_item fraction.num fraction.den

-- a number of 128 bits
abbrev pub WholeFits : ℤ → Type 0
WholeFits (pos n) = n < 2 ^ 127
WholeFits (negsuc n) = n < 2 ^ 127
