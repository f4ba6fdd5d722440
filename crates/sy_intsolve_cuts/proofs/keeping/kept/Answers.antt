use Rattle.std.specs.Prelude.{◌∷◌, ◌++◌, []}
use Rattle.std.proofs.Common.{sym, subst}
use Rattle.sy_intsolve_cuts.specs.Points.{IsPointOf}
use Rattle.sy_intsolve_cuts.proofs.Wholes.{at-more}
use Rattle.sy_intsolve_cuts.proofs.keeping.kept.Goals as goal

pub returns : goal.returns
returns c vars path at = subst (IsPointOf vars (path ++ c.args.fact.now ∷ [])) (sym c.in_ok-copy.ensures) (at-more vars path c.args.point.now c.args.fact.now at (c.meets.ensures c.if-not-meets.false))
