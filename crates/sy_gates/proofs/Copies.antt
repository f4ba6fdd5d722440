-- One copy of a word more.
use Rattle.std.proofs.Common.{◌≡◌, ℕ, Bool, ◌+◌, ◌*◌, ◌^◌, ◌≤◌, max, List, ◌++◌, length, arith, refl, ap, length-append, add-one}
use Rattle.sy_gates.specs.declared.gate.Bit.{Bit}
use Rattle.sy_gates.specs.Circuits.{word_number}
use Rattle.sy_gates.specs.Arithmetic.{copies_of}

pub copies_width : (word low a : List Bit) (i : ℕ) → word ≡ low ++ a → length low ≡ i * length a → length word ≡ (i + 1) * length a
copies_width word low a i e l = omega (arith, ap length e, length-append low a, l)

pub copies_bound : (n l a : ℕ) → n ≡ max l a → l ≤ a → n ≤ a
copies_bound n l a e h = omega arith

pub copies_value : (v : ℕ → Bool) (word low a : List Bit) (i : ℕ) → word_number v word ≡ word_number v a * 2 ^ length low + word_number v low →
    length low ≡ i * length a → word_number v low ≡ copies_of (length a) (word_number v a) i →
    word_number v word ≡ copies_of (length a) (word_number v a) (i + 1)
copies_value v word low a i e l k = rw (e, l, k, add-one) refl
