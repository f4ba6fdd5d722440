use Rattle.std.proofs.Common.{◌≡◌, drop}
use Rattle.sy_linear_known.specs.Keys as spec
use Rattle.sy_linear_known.proofs.key.coefficients_key.Given as goal

abbrev pub invariant-loop-coefficient : goal.invariant-loop-coefficient
invariant-loop-coefficient l = spec.coefficients_key l.fn.seed l.coefficients ≡ spec.coefficients_key l.key (drop l.coefficient-index l.coefficients)
