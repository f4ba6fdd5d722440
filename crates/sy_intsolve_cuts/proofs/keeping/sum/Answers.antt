use Rattle.sy_intsolve_cuts.proofs.Evaluating.{sum-value}
use Rattle.sy_intsolve_cuts.proofs.keeping.sum.Goals as goal

pub returns : goal.returns
returns c = sum-value c.add.result c.args.first.now c.args.second.now _ c.den.ensures.lowest.positive c.den-2.ensures.lowest.positive c.add.ensures
