use Rattle.std.proofs.Common.{◌≡◌, ℕ, ◌<◌}
use Rattle.sy_simplex.specs.Rows.{at as fraction_at}
use Rattle.sy_intsolve_cuts.proofs.whole.first_broken.Given as goal

abbrev pub invariant-loop-at : goal.invariant-loop-at
invariant-loop-at l = (j : ℕ) → j < l.at → (fraction_at l.point j).den ≡ 1
