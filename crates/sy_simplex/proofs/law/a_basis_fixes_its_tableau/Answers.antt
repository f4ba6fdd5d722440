use Rattle.sy_simplex.proofs.Fixed.{basis_fixes}
use Rattle.sy_simplex.proofs.law.a_basis_fixes_its_tableau.Goals as goal

pub returns : goal.returns
returns c = basis_fixes
