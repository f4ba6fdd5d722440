use Rattle.std.proofs.Common.{◌≡◌, ℕ, take}
use Rattle.sy_bits_sums.specs.Polynomials.{total}
use Rattle.sy_bits_sums.proofs.sum.Sum.equals.Given as goal

abbrev pub invariant-loop-i : goal.invariant-loop-i
invariant-loop-i l = (values : ℕ → ℕ) → total values (take l.i l.self.monomials.items) ≡ total values (take l.i l.other.monomials.items)
