use Rattle.sy_bits_words.specs.Sums.{monomial_content}
use Rattle.sy_bits_words.proofs.Contents.{AreLeft}
use Rattle.sy_bits_words.proofs.sums.same_monomials.Given as goal

abbrev pub invariant-loop-x : goal.invariant-loop-x
invariant-loop-x l = AreLeft monomial_content l.a l.b l.x-iterator.a.rest.now l.x-iterator.b.rest.now
