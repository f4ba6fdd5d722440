use Rattle.std.proofs.Common.{subst}
use Rattle.sy_linear_known.specs.Right.{KnownIsRight, IsMisfit}
use Rattle.sy_linear_known.specs.Stored.{linear_query_of}
use Rattle.sy_intsolve.proofs.open.known_at.Goals as goal

pub known_under-requires : goal.known_under-requires
known_under-requires c = record { nodes = c.requires.asked.nodes; vars = c.requires.asked.vars }

pub returns-clause-right : goal.returns-clause-right
returns-clause-right c = subst (λ facts. KnownIsRight (linear_query_of c.args.query.now) facts c.in_ok-known.known) c.as_slice-facts.ensures.value c.in_ok-known.ensures.right

pub returns-clause-range : goal.returns-clause-range
returns-clause-range c = subst (λ facts. IsMisfit (linear_query_of c.args.query.now) facts c.in_ok-known.known) c.as_slice-facts.ensures.value (c.in_ok-known.ensures.range c.requires.asked.fits)
