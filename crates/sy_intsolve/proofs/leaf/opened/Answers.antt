use Rattle.std.specs.Prelude.{IfSome}
use Rattle.std.proofs.Common.{subst}
use Rattle.sy_linear_known.specs.Stored.{linear_query_of}
use Rattle.sy_intsolve.specs.Ways.{IsSplit}
use Rattle.sy_intsolve.proofs.leaf.opened.Goals as goal

pub undecided-requires : goal.undecided-requires
undecided-requires c = record {
  asked = c.requires.asked;
  leaf = c.requires.leaf;
  kept = c.requires.kept;
  split = subst (λ found. IfSome found (IsSplit c.args.plan.now.order (linear_query_of c.args.query.now) c.args.way.facts.items)) c.in-Some.is c.in_ok-found.ensures;
}

pub returns-in-Some : goal.returns-in-Some
returns-in-Some c = c.undecided.ensures

pub returns-in-None : goal.returns-in-None
returns-in-None c = c.told.ensures
