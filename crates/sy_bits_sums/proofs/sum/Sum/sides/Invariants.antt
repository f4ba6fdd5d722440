use Rattle.std.proofs.Common.{◌≡◌, ◌+◌, ℕ, take}
use Rattle.sy_bits_sums.specs.Polynomials.{total, Agree}
use Rattle.sy_bits_sums.proofs.sum.Sum.sides.Given as goal

abbrev pub invariant-loop-monomial : goal.invariant-loop-monomial
invariant-loop-monomial l = record {
  left : l.left.width ≡ l.width;
  right : l.right.width ≡ l.width;
  value : (values : ℕ → ℕ) → Agree l.width (total values l.left.monomials.items) (total values (take l.monomial-index l.monomial-items) + total values l.right.monomials.items);
}
