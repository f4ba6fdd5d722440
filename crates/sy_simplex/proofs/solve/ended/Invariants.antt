use Rattle.std.proofs.Common.{◌≤◌, ◌-◌, length}
use Rattle.sy_simplex.specs.Stated.{tableau_state_of}
use Rattle.sy_simplex.specs.Runs.{Ran}
use Rattle.sy_simplex.proofs.solve.ended.Given as goal

abbrev pub invariant-loop-tableau : goal.invariant-loop-tableau
invariant-loop-tableau l = record { ran : Ran l.vars l.bounds l.steps (tableau_state_of l.tableau); within : length l.steps ≤ l.pivots }

abbrev pub decreases-loop-tableau : goal.decreases-loop-tableau
decreases-loop-tableau l = l.pivots - length l.steps
