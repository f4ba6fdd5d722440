-- Sorts whose vectors have from 1 to 64 bits.
use Rattle.std.specs.Prelude.{◌≤◌}
use Rattle.sy_terms.specs.declared.sort.Sort.{Sort}
use Rattle.sy_terms.specs.declared.sort.Sort.TheVariants as sorts

abbrev pub IsSized : Sort → Type 0
IsSized sorts.Bool = Unit {0}
IsSized sorts.Int = Unit {0}
IsSized (sorts.Bits w) = (1 ≤ w) × (w ≤ 64)
