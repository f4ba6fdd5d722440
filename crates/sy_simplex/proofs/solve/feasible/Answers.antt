use Rattle.sy_simplex.proofs.Ending.{never_pivots}
use Rattle.sy_simplex.proofs.solve.feasible.Goals as goal

pub returns-clause-ends : goal.returns-clause-ends
returns-clause-ends c enough = never_pivots c.args.vars c.args.bounds.now c.args.pivots c.in_ok-end.end.answer enough c.in_ok-end.ensures.exact
