use Rattle.std.proofs.Common.{◌≡◌, drop, map}
use Rattle.sy_bits_words.specs.Sums.{monomial_content, sum_content, monomials_key, key_of_sum}
use Rattle.sy_bits_words.proofs.sums.sum_key.Given as goal

abbrev pub invariant-loop-monomial : goal.invariant-loop-monomial
invariant-loop-monomial l = key_of_sum (sum_content l.sum) ≡ monomials_key l.key (map monomial_content (drop l.monomial-index l.monomial-items))
