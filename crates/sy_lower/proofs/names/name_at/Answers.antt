use Rattle.sy_terms.specs.Denoted.{expr_of-Const}
use Rattle.sy_lower.proofs.Lists.{beyond, named_at}
use Rattle.sy_lower.proofs.names.name_at.Goals as goal

pub returns-in-None : goal.returns-in-None
returns-in-None c = rw (expr_of-Const) (beyond c.args.names.now c.args.position c.in-None.ensures.lookup.3)

pub returns-in_ok-found-in-Some : goal.returns-in_ok-found-in-Some
returns-in_ok-found-in-Some c =
    let lookup = c.in-Some.ensures.lookup in
    named_at c.args.names.now c.args.position c.in-Some.term.now c.in_ok-found-in-Some.found lookup.3.0 lookup.1 c.in_ok-found-in-Some.ensures
