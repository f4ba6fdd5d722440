use Rattle.sy_simplex.proofs.Ending.{never_spent}
use Rattle.sy_simplex.proofs.law.enough_pivots_are_never_spent.Goals as goal

pub returns : goal.returns
returns c = never_spent
