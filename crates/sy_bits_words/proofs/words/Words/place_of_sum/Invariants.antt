use Rattle.std.proofs.Common.{◌≡◌, take}
use Rattle.sy_bits_words.specs.Sums.{sum_content}
use Rattle.sy_bits_words.proofs.Finding.{AreOther}
use Rattle.sy_bits_words.proofs.words.Words.place_of_sum.Given as goal

abbrev pub invariant-loop-place : goal.invariant-loop-place
invariant-loop-place l = AreOther l.self (take l.place-index l.place-items) (λ known. sum_content known.sum ≡ sum_content l.sum)
