use Rattle.std.proofs.Common.{◌≡◌, drop}
use Rattle.sy_bits_words.specs.Sums as contents
use Rattle.sy_bits_words.proofs.sums.places_key.Given as goal

abbrev pub invariant-loop-place : goal.invariant-loop-place
invariant-loop-place l = contents.places_key l.fn.seed l.places ≡ contents.places_key l.key (drop l.place-index l.places)
