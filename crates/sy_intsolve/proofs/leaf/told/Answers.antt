use Rattle.std.proofs.Common.{arith, refl, sym, ◌∙◌, subst}
use Rattle.sy_linear_known.specs.Stored.{linear_query_of}
use Rattle.sy_linear_known.specs.Right.{KnownIsRight, IsMisfit}
use Rattle.sy_intsolve_cuts.specs.Growing.{Shown}
use Rattle.sy_intsolve.proofs.Ends.{open-split}
use Rattle.sy_intsolve.proofs.Ways.{leaf-closed, inner-shown}
use Rattle.sy_intsolve.proofs.leaf.told.Goals as goal

pub returns-in-False : goal.returns-in-False
returns-in-False c = ((leaf-closed c.args.plan.now.order (linear_query_of c.args.query.now) c.args.plan.now.limits.nodes c.args.way Shown c.requires.leaf inner-shown (sym c.in_ok-known.ensures.known ∙ c.in-False.is) refl, c.requires.leaf.within), omega arith)

pub returns-in-OutOfRange : goal.returns-in-OutOfRange
returns-in-OutOfRange c = c.spent_known.ensures c.args.plan.now.order (linear_query_of c.args.query.now) c.args.plan.now.limits _ c.requires.leaf.way c.requires.leaf.within (subst (IsMisfit (linear_query_of c.args.query.now) c.args.way.facts.items) c.in-OutOfRange.is c.in_ok-known.ensures.range)

pub undecided-requires : goal.undecided-requires
undecided-requires c = record {
  asked = c.requires.asked;
  leaf = c.requires.leaf;
  kept = c.requires.kept;
  split = open-split c.args.plan.now.order (linear_query_of c.args.query.now) c.args.way.facts.items c.in-Undecided.test c.requires.leaf.path (sym c.in_ok-known.ensures.known ∙ c.in-Undecided.is);
}

pub settled-requires : goal.settled-requires
settled-requires c = record {
  asked = c.requires.asked;
  leaf = c.requires.leaf;
  kept = c.requires.kept;
  known = sym c.in_ok-known.ensures.known ∙ c.in-True.is;
  right = subst (KnownIsRight (linear_query_of c.args.query.now) c.args.way.facts.items) c.in-True.is c.in_ok-known.ensures.right;
}

pub returns-in-True : goal.returns-in-True
returns-in-True c = c.settled.ensures

pub returns-in-Undecided : goal.returns-in-Undecided
returns-in-Undecided c = c.undecided.ensures
