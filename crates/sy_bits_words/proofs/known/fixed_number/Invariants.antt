use Rattle.std.proofs.Common.{◌≡◌, ℕ, Bool, take}
use Rattle.sy_gates.specs.Circuits.{word_number}
use Rattle.sy_bits_words.proofs.known.fixed_number.Given as goal

abbrev pub invariant-loop-i : goal.invariant-loop-i
invariant-loop-i l = (v : ℕ → Bool) → word_number v (take l.i l.word) ≡ l.number
