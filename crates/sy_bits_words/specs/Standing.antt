-- Words that stand for sums of the numbers of words.
use Rattle.std.specs.Prelude.{ℕ, Bool, cond, ◌≡◌, ◌≤◌, ◌+◌, ◌-◌, ◌%◌, ◌^◌, List, length, slice_get, Some, bit_and}
use Rattle.sy_terms.specs.Values.{Bits}
use Rattle.sy_terms.specs.Operators.{op_value}
use Rattle.sy_terms.specs.Theories.{sort_of_value}
use Rattle.sy_terms.specs.declared.op.Op.{Op}
use Rattle.sy_terms.specs.declared.op.Op.TheVariants as ops
use Rattle.sy_terms.specs.declared.sort.Sort.TheVariants as sorts
use Rattle.sy_gates.specs.declared.gate.Bit.{Bit}
use Rattle.sy_gates.specs.declared.quotient.Division.{Division}
use Rattle.sy_gates.specs.Arithmetic.{quotient_of, remainder_of}
use Rattle.sy_gates.specs.Circuits.{Plan, variables, FollowsPlan, word_number, word_bound}
use Rattle.sy_bits_sums.specs.declared.sum.Sum.{Sum}
use Rattle.sy_bits_sums.specs.Polynomials.{total, Agree}
use Rattle.sy_bits_operators.specs.declared.signal.Signal.{Signal}
use Rattle.sy_bits_operators.specs.Signals.{signal_value, signal_values, signal_sort, signal_sorts, signal_bound, signals_bound}
use Rattle.sy_bits_words.specs.declared.known.Known.{Known}

-- the number of the bits that are true in both words of a place; a word that stands alone is both
abbrev pub place_number : (ℕ → Bool) → Known → ℕ
place_number v known = bit_and (word_number v known.word) (word_number v known.other)

-- a number of a width, or that of the word with each bit turned
abbrev pub turned_number : ℕ → Bool → ℕ → ℕ
turned_number width turned n = cond turned (2 ^ width - 1 - n) n

-- the value at each place is the number there
pub record AreNumbers (v : ℕ → Bool) (list : List Known) (values : ℕ → ℕ) : Type 0 where
  pub at : (place : ℕ) (known : Known) → slice_get list place ≡ Some known → values place ≡ place_number v known

-- wherever the circuit's gates are followed, the word has the sum's number
pub record StandsFor (circuit : Plan) (list : List Known) (word : List Bit) (sum : Sum) : Type 0 where
  pub width : length word ≡ sum.width
  pub inside : word_bound word ≤ variables circuit
  pub value : (v : ℕ → Bool) (values : ℕ → ℕ) → FollowsPlan v circuit → AreNumbers v list values → Agree (length word) (word_number v word) (total values sum.monomials.items)

pub record AllStand (circuit : Plan) (list : List Known) : Type 0 where
  pub each : (place : ℕ) (known : Known) → slice_get list place ≡ Some known → StandsFor circuit list known.word known.sum

-- words of one width, inside the circuit; wherever its gates are followed, the quotient and the remainder of the first two
pub record IsDivided (circuit : Plan) (a b : List Bit) (division : Division) : Type 0 where
  pub quotient_width : length division.quotient ≡ length a
  pub remainder_width : length division.remainder ≡ length a
  pub left : word_bound a ≤ variables circuit
  pub right : word_bound b ≤ variables circuit
  pub quotient_inside : word_bound division.quotient ≤ variables circuit
  pub remainder_inside : word_bound division.remainder ≤ variables circuit
  pub quotient : (v : ℕ → Bool) → FollowsPlan v circuit → word_number v division.quotient ≡ quotient_of (length a) (word_number v a) (word_number v b)
  pub remainder : (v : ℕ → Bool) → FollowsPlan v circuit → word_number v division.remainder ≡ remainder_of (word_number v a) (word_number v b)

-- words inside the circuit; wherever its gates are followed, the first is the sum's number more than the second
pub record IsDifference (circuit : Plan) (list : List Known) (first second : List Bit) (sum : Sum) : Type 0 where
  pub width : length first ≡ sum.width
  pub same : length second ≡ length first
  pub left : word_bound first ≤ variables circuit
  pub right : word_bound second ≤ variables circuit
  pub value : (v : ℕ → Bool) (values : ℕ → ℕ) → FollowsPlan v circuit → AreNumbers v list values → Agree (length first) (word_number v second + total values sum.monomials.items) (word_number v first)

-- wherever the circuit's gates are followed, the operator has the sum's number at these signals
pub record IsSumOf (circuit : Plan) (list : List Known) (op : Op) (args : List Signal) (sum : Sum) : Type 0 where
  pub sort : (v : ℕ → Bool) → sort_of_value (op_value op (signal_values v args)) ≡ sorts.Bits sum.width
  pub value : (v : ℕ → Bool) (values : ℕ → ℕ) → FollowsPlan v circuit → AreNumbers v list values → op_value op (signal_values v args) ≡ Bits sum.width (total values sum.monomials.items % 2 ^ sum.width)

-- signals of the same sorts, which are equal where the old ones are, wherever the circuit's gates are followed
pub record AreEqualWhere (circuit : Plan) (old new : List Signal) : Type 0 where
  pub alike : signal_sorts new ≡ signal_sorts old
  pub inside : signals_bound new ≤ variables circuit
  pub equal : (v : ℕ → Bool) → FollowsPlan v circuit → op_value ops.Equal (signal_values v new) ≡ op_value ops.Equal (signal_values v old)
  pub distinct : (v : ℕ → Bool) → FollowsPlan v circuit → op_value ops.Distinct (signal_values v new) ≡ op_value ops.Distinct (signal_values v old)

-- signals of the same sorts, at which an operator has the value that it has at the old ones
pub record HaveItsValue (circuit : Plan) (op : Op) (old new : List Signal) : Type 0 where
  pub alike : signal_sorts new ≡ signal_sorts old
  pub inside : signals_bound new ≤ variables circuit
  pub sort : (v : ℕ → Bool) → sort_of_value (op_value op (signal_values v new)) ≡ sort_of_value (op_value op (signal_values v old))
  pub value : (v : ℕ → Bool) → FollowsPlan v circuit → op_value op (signal_values v new) ≡ op_value op (signal_values v old)

-- a signal inside the circuit that has the operator's value at signals, wherever the circuit's gates are followed
pub record Serves (circuit : Plan) (op : Op) (args : List Signal) (signal : Signal) : Type 0 where
  pub inside : signal_bound signal ≤ variables circuit
  pub sort : (v : ℕ → Bool) → signal_sort signal ≡ sort_of_value (op_value op (signal_values v args))
  pub value : (v : ℕ → Bool) → FollowsPlan v circuit → signal_value v signal ≡ op_value op (signal_values v args)
