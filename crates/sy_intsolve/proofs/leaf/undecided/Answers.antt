use Rattle.std.proofs.Common.{arith, refl, subst}
use Rattle.sy_linear_known.specs.Stored.{linear_query_of}
use Rattle.sy_intsolve_cuts.specs.Growing.{Farkas}
use Rattle.sy_intsolve.proofs.Ends.{split-fork}
use Rattle.sy_intsolve.specs.Ways.{TellsPoint}
use Rattle.sy_intsolve.proofs.Ways.{leaf-closed, inner-farkas}
use Rattle.sy_intsolve.proofs.leaf.undecided.Goals as goal

pub grow-requires : goal.grow-requires
grow-requires c = record {
  leaf = c.requires.leaf;
  fork = split-fork c.args.plan.now.order (linear_query_of c.args.query.now) c.args.way.facts.items c.args.test c.in-Point.near c.requires.split (subst (TellsPoint c.args.query.now.vars c.args.way.facts.items c.args.plan.now.limits.pivots) c.in-Point.is c.in_ok-answer.ensures);
  turns = c.requires.split.turns;
}

pub returns-in-Point : goal.returns-in-Point
returns-in-Point c = c.grow.ensures

pub returns-in-Conflict : goal.returns-in-Conflict
returns-in-Conflict c = ((leaf-closed c.args.plan.now.order (linear_query_of c.args.query.now) c.args.plan.now.limits.nodes c.args.way (Farkas c.in-Conflict.multipliers) c.requires.leaf (inner-farkas c.in-Conflict.multipliers) (subst (TellsPoint c.args.query.now.vars c.args.way.facts.items c.args.plan.now.limits.pivots) c.in-Conflict.is c.in_ok-answer.ensures) refl, c.requires.leaf.within), omega arith)

pub returns-in-Pivots : goal.returns-in-Pivots
returns-in-Pivots c = c.spent_pivots.ensures c.args.plan.now.order (linear_query_of c.args.query.now) c.args.plan.now.limits _ c.requires.leaf.way c.requires.leaf.within (subst (TellsPoint c.args.query.now.vars c.args.way.facts.items c.args.plan.now.limits.pivots) c.in-Pivots.is c.in_ok-answer.ensures)

pub returns-in-Range : goal.returns-in-Range
returns-in-Range c = c.spent_range.ensures c.args.plan.now.order (linear_query_of c.args.query.now) c.args.plan.now.limits _ c.requires.leaf.way c.requires.leaf.within (subst (TellsPoint c.args.query.now.vars c.args.way.facts.items c.args.plan.now.limits.pivots) c.in-Range.is c.in_ok-answer.ensures)
