use Rattle.std.proofs.Common.{◌≡◌, drop}
use Rattle.sy_frac.specs.Rational.{◌+ℚ◌, value}
use Rattle.sy_linear_known.specs.Points.{combined_at, form_value_at}
use Rattle.sy_simplex.specs.Problems.{numbers}
use Rattle.sy_intsolve_cuts.proofs.keeping.number_at.Given as goal

abbrev pub invariant-loop-coefficient : goal.invariant-loop-coefficient
invariant-loop-coefficient l = combined_at (drop l.coefficient-index l.coefficient-items) (numbers l.point) +ℚ value l.number ≡ form_value_at l.form (numbers l.point)
