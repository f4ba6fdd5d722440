use Rattle.sy_terms.specs.Denoted.{vals_of}
use Rattle.sy_terms.proofs.PairsApplied.{AreBelow}
use Rattle.sy_meaning_words.specs.Vectors.{vector}
use Rattle.sy_meaning_words.proofs.pairs.each_value.Given as goal

abbrev pub invariant-loop-place : goal.invariant-loop-place
invariant-loop-place l = AreBelow l.op (vals_of vector l.fn.values) (vals_of vector l.others) (vals_of vector l.values) l.place
