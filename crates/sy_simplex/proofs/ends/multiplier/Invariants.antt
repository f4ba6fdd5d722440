use Rattle.std.proofs.Common.{◌≢◌, ℕ, ◌<◌}
use Rattle.sy_simplex.specs.States.{variable_of_column}
use Rattle.sy_simplex.specs.Stated.{tableau_state_of}
use Rattle.sy_simplex.proofs.ends.multiplier.Given as goal

abbrev pub invariant-loop-column : goal.invariant-loop-column
invariant-loop-column l = (k : ℕ) → k < l.column → variable_of_column (tableau_state_of l.tableau) k ≢ l.variable
