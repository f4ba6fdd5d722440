use Rattle.std.proofs.Common.{arith, refl, subst}
use Rattle.sy_linear_known.specs.Stored.{linear_query_of}
use Rattle.sy_intsolve_cuts.specs.Growing.{Farkas}
use Rattle.sy_intsolve.specs.Telling.{IsNear}
use Rattle.sy_intsolve.proofs.Ways.{leaf-closed, inner-farkas}
use Rattle.sy_intsolve.proofs.leaf.look.Goals as goal

pub returns-in-Conflict : goal.returns-in-Conflict
returns-in-Conflict c = ((leaf-closed c.args.plan.now.order (linear_query_of c.args.query.now) c.args.plan.now.limits.nodes c.args.way (Farkas c.in-Conflict.multipliers) c.requires.leaf (inner-farkas c.in-Conflict.multipliers) (subst (IsNear c.args.query.now.vars c.args.way.facts.items) c.in-Conflict.is c.in_ok-told.ensures) refl, c.requires.leaf.within), omega arith)

pub opened-requires : goal.opened-requires
opened-requires c = record {
  asked = c.requires.asked;
  leaf = c.requires.leaf;
  kept = subst (IsNear c.args.query.now.vars c.args.way.facts.items) c.in-Point.is c.in_ok-told.ensures;
}

pub returns-in-Point : goal.returns-in-Point
returns-in-Point c = c.opened.ensures

pub returns-in-Unknown : goal.returns-in-Unknown
returns-in-Unknown c = c.opened-in-Unknown.ensures
