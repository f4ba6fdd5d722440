use Rattle.std.proofs.Common.{◌≡◌, take}
use Rattle.sy_bits_words.proofs.known.same_word.Given as goal

abbrev pub invariant-loop-i : goal.invariant-loop-i
invariant-loop-i l = take l.i l.a ≡ take l.i l.b
