use Rattle.std.proofs.Common.{◌≢◌, ℕ, ◌<◌}
use Rattle.sy_simplex.specs.States.{basic}
use Rattle.sy_simplex.specs.Stated.{tableau_state_of}
use Rattle.sy_simplex.proofs.ends.value_of.Given as goal

abbrev pub invariant-loop-row : goal.invariant-loop-row
invariant-loop-row l = (k : ℕ) → k < l.row → basic (tableau_state_of l.tableau) k ≢ l.variable
