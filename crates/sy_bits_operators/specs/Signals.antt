-- The values that bits of a circuit stand for.
use Rattle.std.specs.Prelude.{ℕ, ◌+◌, Bool, true, false, ◌&&◌, nat_le, max, List, [], ◌∷◌, map, length, All, ◌≡◌}
use Rattle.std.specs.List.{list_all}
use Rattle.sy_terms.specs.Values.{Val, Truth, Bits}
use Rattle.sy_terms.specs.Sorts.{same_sort}
use Rattle.sy_terms.specs.declared.sort.Sort.{Sort}
use Rattle.sy_terms.specs.declared.sort.Sort.TheVariants as sorts
use Rattle.sy_gates.specs.Circuits.{bit_value, bit_bound, word_number, word_bound}
use Rattle.sy_bits_operators.specs.declared.signal.Signal.{Signal}
use Rattle.sy_bits_operators.specs.declared.signal.Signal.TheVariants as signals

-- the value of a signal where `v` gives each variable of the circuit a truth value
abbrev pub signal_value : (ℕ → Bool) → Signal → Val
signal_value v (signals.Truth bit) = Truth (bit_value v bit)
signal_value v (signals.Vector word) = Bits (length word) (word_number v word)

abbrev pub signal_values : (ℕ → Bool) → List Signal → List Val
signal_values v list = map (signal_value v) list

abbrev pub signal_sort : Signal → Sort
signal_sort (signals.Truth bit) = sorts.Bool
signal_sort (signals.Vector word) = sorts.Bits (length word)

abbrev pub signal_sorts : List Signal → List Sort
signal_sorts list = map signal_sort list

-- a number that is above each variable of a signal
abbrev pub signal_bound : Signal → ℕ
signal_bound (signals.Truth bit) = bit_bound bit
signal_bound (signals.Vector word) = word_bound word

abbrev pub signals_bound : List Signal → ℕ
signals_bound [] = 0
signals_bound (signal ∷ rest) = max (signal_bound signal) (signals_bound rest)

-- a sort whose values circuits have: vectors have from 1 to 64 bits
abbrev pub has_signals : Sort → Bool
has_signals sorts.Bool = true
has_signals sorts.Int = false
has_signals (sorts.Bits width) = nat_le 1 width && nat_le width 64

abbrev pub AllHaveSignals : List Sort → Type 0
AllHaveSignals list = All (λ sort. has_signals sort ≡ true) list

-- how many bits a sort's signal has
abbrev pub sort_width : Sort → ℕ
sort_width sorts.Bool = 1
sort_width sorts.Int = 0
sort_width (sorts.Bits width) = width

-- all are of the first one's sort
abbrev pub are_alike : List Sort → Bool
are_alike [] = true
are_alike (sort ∷ rest) = list_all (same_sort sort) rest

-- how many bits the signals of some sorts have together
abbrev pub total_width : List Sort → ℕ
total_width [] = 0
total_width (sort ∷ rest) = sort_width sort + total_width rest
