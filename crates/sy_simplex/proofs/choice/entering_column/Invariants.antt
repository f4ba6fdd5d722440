use Rattle.std.proofs.Common.{MatchOption}
use Rattle.sy_simplex.specs.Rows.{LeastRaising, NoneRaises}
use Rattle.sy_simplex.proofs.choice.entering_column.Given as goal

abbrev pub invariant-loop-at : goal.invariant-loop-at
invariant-loop-at l = MatchOption l.best (NoneRaises l.columns l.coefs l.vars l.at) (λ o. LeastRaising l.columns l.coefs l.vars l.at o)
