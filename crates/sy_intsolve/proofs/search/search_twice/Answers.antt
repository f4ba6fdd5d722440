use Rattle.std.proofs.Common.{sym, ◌∙◌}
use Rattle.sy_linear_known.specs.Stored.{linear_query_of}
use Rattle.sy_intsolve_cuts.specs.declared.step.Order.TheVariants.{Free}
use Rattle.sy_intsolve.proofs.Ends.{unspent-answers, first-end}
use Rattle.sy_intsolve.proofs.search.search_twice.Goals as goal

pub returns-then-not-is_spent : goal.returns-then-not-is_spent
returns-then-not-is_spent c = unspent-answers Free (linear_query_of c.args.query.now) c.args.limits.now c.in_ok-verdict.verdict c.in_ok-verdict.ensures (sym c.is_spent.ensures ∙ c.if-not-is_spent.true)

pub returns : goal.returns
returns c = first-end (linear_query_of c.args.query.now) c.args.limits.now c.search-2.result c.search-2.ensures
