use Rattle.std.proofs.Common.{arith, sym, subst}
use Rattle.sy_linear_known.specs.Stored.{linear_query_of}
use Rattle.sy_intsolve.specs.Ways.{CanTurn}
use Rattle.sy_intsolve.proofs.Ways.{grown, grown-room}
use Rattle.sy_intsolve.proofs.leaf.grow.Goals as goal

pub enter-requires : goal.enter-requires
enter-requires c = subst (λ facts. CanTurn c.args.query.now.vars facts c.args.fork) (sym c.counted-grown.ensures.facts) c.requires.turns

pub returns-then-way-plan : goal.returns-then-way-plan
returns-then-way-plan c = c.spent_nodes.ensures c.args.plan.now.order (linear_query_of c.args.query.now) c.args.plan.now.limits _ c.requires.leaf.way (omega (arith, c.if-way-plan.true, c.requires.leaf.within))

pub returns : goal.returns
returns c = (
  c.in_ok-state.ensures.state c.args.plan.now.order c.args.plan.now.limits.nodes
      (grown c.args.plan.now.order (linear_query_of c.args.query.now) c.args.way c.counted-grown.result c.args.fork c.args.point c.goes_left-left.result c.requires.leaf.way c.requires.fork c.requires.turns c.counted-grown.ensures.facts c.counted-grown.ensures.steps c.counted-grown.ensures.inner)
      (omega (arith, c.counted-grown.ensures.inner, c.if-way-plan.false)),
  omega (arith, c.in_ok-state.ensures.room c.args.plan.now.limits.nodes, grown-room c.args.plan.now.limits.nodes c.args.way c.counted-grown.result c.counted-grown.ensures.steps c.counted-grown.ensures.inner c.if-way-plan.false),
)
