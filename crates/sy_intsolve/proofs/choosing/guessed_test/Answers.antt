use Rattle.std.specs.Prelude.{IfSome}
use Rattle.std.proofs.Common.{sym, subst}
use Rattle.sy_linear_known.specs.Stored.{linear_query_of}
use Rattle.sy_intsolve_paths_laws.specs.Paths.{IsPath, TestIsOpen}
use Rattle.sy_intsolve.specs.Ways.{IsSplit}
use Rattle.sy_intsolve.proofs.Ends.{free-splits}
use Rattle.sy_intsolve.proofs.choosing.guessed_test.Goals as goal

pub choose-requires : goal.choose-requires
choose-requires c = record {
  few = c.requires.asked.vars;
  path = subst (IsPath c.args.query.now.vars) (sym c.as_slice-facts.ensures.value) c.requires.path;
}

pub returns-in_ok-found-in-Free : goal.returns-in_ok-found-in-Free
returns-in_ok-found-in-Free c =
    subst (λ order. IfSome c.in_ok-found-in-Free.found (IsSplit order (linear_query_of c.args.query.now) c.args.way.now.facts.items)) (sym c.in-Free.is)
    (free-splits (linear_query_of c.args.query.now) c.args.way.now.facts.items c.in_ok-found-in-Free.found
    (subst (λ facts. IfSome c.in_ok-found-in-Free.found (TestIsOpen c.args.query.now.vars facts)) c.as_slice-facts.ensures.value c.in_ok-found-in-Free.ensures))
