-- Constants as divisors.
use Rattle.std.specs.Prelude.{ℤ, neg_ℤ, Option, None, if◌then◌else◌}
use Rattle.sy_terms.specs.Values.{Val, Truth, Whole, Bits}
use Rattle.sy_terms.specs.Theories.{fits_128}
use Rattle.sy_lower_laws.specs.Lowering.{nonzero}

-- the negated number, where it fits 128 bits and isn't 0
abbrev pub negated : ℤ → Option ℤ
negated number = if fits_128 (neg_ℤ number) then nonzero (neg_ℤ number) else None

-- the number that a value is, or its negation
abbrev pub value_nonzero : Val → Option ℤ
value_nonzero (Truth truth) = None
value_nonzero (Whole number) = nonzero number
value_nonzero (Bits width number) = None

abbrev pub value_negated : Val → Option ℤ
value_negated (Truth truth) = None
value_negated (Whole number) = negated number
value_negated (Bits width number) = None
