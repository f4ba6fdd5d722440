use Rattle.std.proofs.Common.{◌≡◌, ◌+◌, ℕ, ◌<◌, length}
use Rattle.sy_simplex.specs.Rows.{at}
use Rattle.sy_simplex.specs.Stated.{tableau_state_of}
use Rattle.sy_simplex.specs.Runs.{IsMultiplier}
use Rattle.sy_simplex.proofs.ends.multipliers.Given as goal

abbrev pub invariant-loop-form : goal.invariant-loop-form
invariant-loop-form l = record { len : length l.all ≡ l.form; each : (i : ℕ) → i < l.form → IsMultiplier (tableau_state_of l.tableau) l.row (l.tableau.vars + i) (at l.all i) }
