use Rattle.std.proofs.Common.{◌≡◌, ℕ, ◌<◌, length}
use Rattle.sy_simplex.specs.Rows.{at}
use Rattle.sy_simplex.specs.Stated.{tableau_state_of}
use Rattle.sy_simplex.specs.Runs.{IsValue}
use Rattle.sy_simplex.proofs.ends.point.Given as goal

abbrev pub invariant-loop-variable : goal.invariant-loop-variable
invariant-loop-variable l = record { len : length l.point ≡ l.variable; each : (v : ℕ) → v < l.variable → IsValue (tableau_state_of l.tableau) v (at l.point v) }
