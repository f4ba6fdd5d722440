-- What a call that may leave the range of 128 bits answers.
use Rattle.std.specs.Prelude.{Bool, true, false, Option, Some, None, ◌≡◌, ℤ}
use Rattle.sy_terms.specs.Values.{Val, Whole}
use Rattle.sy_terms.specs.declared.sort.Value.TheVariants.{Num}
use Rattle.sy_terms.specs.declared.theory.Applied.{Applied}
use Rattle.sy_terms.specs.declared.theory.Applied.TheVariants.{Is, OutOfRange}

-- None where it doesn't fit, and otherwise the value
abbrev pub Found : Bool → Val → Option ℤ → Type 0
Found fits value None = fits ≡ false
Found fits value (Some n) = (fits ≡ true) × (Whole n ≡ value)

-- the answer of the theory
abbrev pub applied_whole : Option ℤ → Applied ℤ
applied_whole None = OutOfRange
applied_whole (Some n) = Is (Num n)
