use Rattle.std.proofs.Common.{subst}
use Rattle.sy_cdcl_literals.specs.Suiting.{IsTruthOf}
use Rattle.sy_cdcl_literals.proofs.Literals.{all_false}
use Rattle.sy_cdcl_literals.proofs.outcomes.outcome_of.Goals as goal

pub returns-in-True : goal.returns-in-True
returns-in-True c values clause has but told = subst (IsTruthOf values c.args.literal) c.in-True.is told

pub returns-in-Open : goal.returns-in-Open
returns-in-Open c values clause has but told =
    record { has = has; unvalued = subst (IsTruthOf values c.args.literal) c.in-Open.is told; others = but }

pub returns-in-False : goal.returns-in-False
returns-in-False c values clause has but told =
    all_false values clause c.args.literal but (subst (IsTruthOf values c.args.literal) c.in-False.is told)
