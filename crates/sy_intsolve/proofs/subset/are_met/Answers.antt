use Rattle.std.proofs.Common.{subst}
use Rattle.sy_intsolve_cuts.specs.Points.{IsMetBy}
use Rattle.sy_intsolve.proofs.Chosen.{at_next}
use Rattle.sy_intsolve.proofs.subset.are_met.Goals as goal

pub loop-fact-preserved : goal.loop-fact-preserved
loop-fact-preserved c vars at =
    at_next vars c.args.facts.now c.loop-fact.fact-index c.args.point.now c.fact-item.result c.loop-fact-test.true (c.loop-fact.invariant vars at)
    (subst (IsMetBy c.args.point.now) c.fact-item.is (c.meets.ensures c.if-not-meets.false))
