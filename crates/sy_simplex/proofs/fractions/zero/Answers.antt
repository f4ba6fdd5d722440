use Rattle.std.proofs.Common.{refl, lit<}
use Rattle.sy_simplex.proofs.Exact.{whole_exact}
use Rattle.sy_simplex.proofs.fractions.zero.Goals as goal

pub returns : goal.returns
returns c = whole_exact c.in-Some.f _ _ (lit< tt) refl c.in-Some.ensures.1
