use Rattle.sy_terms.specs.Values.{Whole}
use Rattle.sy_terms.specs.Denoted.{vals_of}
use Rattle.sy_terms.proofs.PairsApplied.{AreBelow}
use Rattle.sy_meaning_integers.proofs.theory.IntTheoryTheory.apply_each.Given as goal

abbrev pub invariant-loop-place : goal.invariant-loop-place
invariant-loop-place l = AreBelow l.op (vals_of (λ n. Whole n) l.fn.values) (vals_of (λ n. Whole n) l.others) (vals_of (λ n. Whole n) l.values) l.place
