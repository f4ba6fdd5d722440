use Rattle.std.proofs.Common.{◌≡◌, ◌+◌, ◌*◌, ℕ, take}
use Rattle.sy_bits_sums.specs.Polynomials.{total, monomial_value, Agree}
use Rattle.sy_bits_sums.proofs.sum.Sum.add_multiple.Given as goal

abbrev pub invariant-loop-monomial : goal.invariant-loop-monomial
invariant-loop-monomial l = record {
  width : l.self.width ≡ l.initial.self.width;
  value : (values : ℕ → ℕ) → Agree l.initial.self.width (total values l.self.monomials.items) (total values l.initial.self.monomials.items + total values (take l.monomial-index l.monomial-items) * monomial_value values l.by);
}
