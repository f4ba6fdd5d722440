use Rattle.sy_simplex.proofs.Returning.{no_basis_twice}
use Rattle.sy_simplex.proofs.law.no_basis_comes_twice.Goals as goal

pub returns : goal.returns
returns c = no_basis_twice
