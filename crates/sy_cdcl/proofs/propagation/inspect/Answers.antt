use Rattle.sy_clauses.specs.Clauses.{literals}
use Rattle.sy_cdcl.specs.Trails.{kept_values}
use Rattle.sy_cdcl.proofs.propagation.inspect.Goals as goal

pub returns : goal.returns
returns c = c.outcome_of.ensures (kept_values c.args.trail.now.values.items) (literals c.args.clause.now) c.requires c.in_default.ensures c.truth.ensures
