-- How many gates the circuit of an operator has at most.
use Rattle.std.specs.Prelude.{ℕ, ◌+◌, ◌*◌, List, [], ◌∷◌, length, if◌then◌else◌}
use Rattle.sy_terms.specs.Theories.{in_core}
use Rattle.sy_terms.specs.declared.op.Op.{Op}
use Rattle.sy_terms.specs.declared.op.Op.TheVariants as ops
use Rattle.sy_terms.specs.declared.sort.Sort.{Sort}
use Rattle.sy_bits_operators.specs.Signals.{sort_width}

-- an operator on one vector of a width
abbrev pub single_gates : Op → ℕ → ℕ
single_gates ops.BvNeg width = 3 * width
single_gates _ width = 0

-- an operator on two vectors of a width
abbrev pub pair_gates : Op → ℕ → ℕ
pair_gates ops.Concat width = 0
pair_gates ops.BvAnd width = width
pair_gates ops.BvOr width = width
pair_gates ops.BvXor width = width
pair_gates ops.BvNand width = width
pair_gates ops.BvNor width = width
pair_gates ops.BvXnor width = width
pair_gates ops.BvComp width = 2 * width
pair_gates ops.BvMul width = 4 * (width * width)
pair_gates ops.BvUdiv width = 4 * (width * (width + 1))
pair_gates ops.BvUrem width = 4 * (width * (width + 1))
pair_gates ops.BvSdiv width = 4 * (width * (width + 1)) + 12 * width + 1
pair_gates ops.BvSrem width = 4 * (width * (width + 1)) + 12 * width
pair_gates ops.BvSmod width = 4 * (width * (width + 1)) + 19 * width + 1
pair_gates ops.BvShl width = width * width
pair_gates ops.BvLshr width = width * width
pair_gates ops.BvAshr width = width * width + 2 * width
pair_gates _ width = 3 * width + 2

-- whether two signals of a width are the same
abbrev pub same_gates : ℕ → ℕ
same_gates width = 2 * width + 1

abbrev pub first_width : List Sort → ℕ
first_width [] = 0
first_width (sort ∷ rest) = sort_width sort

-- an operator of Core on so many signals, of these sorts
abbrev pub core_gates : Op → ℕ → List Sort → ℕ
core_gates ops.Equal count sorts = count * same_gates (first_width sorts)
core_gates ops.Distinct count sorts = count * (count * same_gates (first_width sorts))
core_gates ops.Ite count (test ∷ first ∷ rest) = sort_width first
core_gates _ count sorts = count

-- an operator on vectors of these sorts
abbrev pub vector_gates : Op → List Sort → ℕ
vector_gates op [] = 0
vector_gates op (first ∷ []) = single_gates op (sort_width first)
vector_gates op (first ∷ second ∷ rest) = length (second ∷ rest) * pair_gates op (sort_width first)

-- an operator on signals of these sorts
abbrev pub gates : Op → List Sort → ℕ
gates op sorts = if in_core op then core_gates op (length sorts) sorts else vector_gates op sorts
