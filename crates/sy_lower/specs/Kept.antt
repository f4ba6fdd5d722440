-- Kept divisions apart from memory.
use Rattle.std.specs.Prelude.{List, map}
use Rattle.sy_terms.specs.Values.{Whole}
use Rattle.sy_terms.specs.Denoted.{expr_of}
use Rattle.sy_lower_laws.specs.Lowering as spec
use Rattle.sy_lower.specs.declared.pairs.Pair.{Pair}

-- the division that a kept one is
abbrev pub pair_in : Pair → spec.Pair
pair_in pair = record { dividend = expr_of Whole pair.dividend; divisor = pair.divisor; quotient = pair.quotient }

abbrev pub pairs_in : List Pair → List spec.Pair
pairs_in pairs = map pair_in pairs
