use Rattle.std.proofs.Common.{◌≡◌, ◌*◌, ℕ, take}
use Rattle.sy_bits_sums.specs.Polynomials.{product}
use Rattle.sy_bits_sums.proofs.monomial.Monomial.times.Given as goal

abbrev pub invariant-loop-place : goal.invariant-loop-place
invariant-loop-place l = (values : ℕ → ℕ) → product values l.factors.items ≡ product values l.self.factors.items * product values (take l.place-index l.place-items)
