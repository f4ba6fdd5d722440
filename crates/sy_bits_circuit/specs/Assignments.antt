-- The values that the first variables of clauses stand for: bit by bit, the least first.
use Rattle.std.specs.Prelude.{ℕ, ◌+◌, ◌*◌, Bool, false, cond, List, [], ◌∷◌, take, drop}
use Rattle.sy_terms.specs.Values.{Val, Truth, Bits}
use Rattle.sy_terms.specs.declared.sort.Sort.{Sort}
use Rattle.sy_terms.specs.declared.sort.Sort.TheVariants as sorts
use Rattle.sy_bits_operators.specs.Signals.{sort_width}

abbrev pub number_of_bits : List Bool → ℕ
number_of_bits [] = 0
number_of_bits (bit ∷ bits) = cond bit 1 0 + 2 * number_of_bits bits

abbrev pub first_bit : List Bool → Bool
first_bit [] = false
first_bit (bit ∷ bits) = bit

-- the value of a sort that its bits stand for
abbrev pub value_of_bits : Sort → List Bool → Val
value_of_bits sorts.Bool bits = Truth (first_bit bits)
value_of_bits sorts.Int bits = Truth false
value_of_bits (sorts.Bits width) bits = Bits width (number_of_bits bits)

-- a value of each sort, one after the other
abbrev pub assignment : List Sort → List Bool → List Val
assignment [] bits = []
assignment (sort ∷ rest) bits = value_of_bits sort (take (sort_width sort) bits) ∷ assignment rest (drop (sort_width sort) bits)
