use Rattle.std.proofs.Common.{◌≡◌, ◌*◌, ℕ, take}
use Rattle.sy_bits_sums.specs.Polynomials.{total, Agree}
use Rattle.sy_bits_sums.proofs.sum.Sum.times.Given as goal

abbrev pub invariant-loop-monomial : goal.invariant-loop-monomial
invariant-loop-monomial l = record {
  width : l.sum.width ≡ l.width;
  value : (values : ℕ → ℕ) → Agree l.width (total values l.sum.monomials.items) (total values l.self.monomials.items * total values (take l.monomial-index l.monomial-items));
}
