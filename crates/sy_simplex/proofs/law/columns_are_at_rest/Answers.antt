use Rattle.sy_simplex.proofs.Fixed.{at_rest}
use Rattle.sy_simplex.proofs.law.columns_are_at_rest.Goals as goal

pub returns : goal.returns
returns c = at_rest
