use Rattle.std.proofs.Common.{ℕ, ◌<◌, MatchOption}
use Rattle.sy_simplex.specs.States.{IsClear, FirstUnclear}
use Rattle.sy_simplex.specs.Stated.{tableau_state_of}
use Rattle.sy_simplex.proofs.tableau.Tableau.first_unclear.Given as goal

abbrev pub invariant-loop-at : goal.invariant-loop-at
invariant-loop-at l = MatchOption l.best ((k : ℕ) → k < l.at → IsClear (tableau_state_of l.self) k) (λ o. FirstUnclear (tableau_state_of l.self) l.at o)
