use Rattle.std.proofs.Common.{sym, subst}
use Rattle.sy_intsolve.specs.Ways.{HasSides}
use Rattle.sy_intsolve.proofs.fork.ahead.Goals as goal

pub fact_of-requires : goal.fact_of-requires
fact_of-requires c = subst (λ vars. HasSides vars c.args.fork.now) (sym c.as_slice-vars.ensures) c.requires

pub returns-in-Ok-clause-fact : goal.returns-in-Ok-clause-fact
returns-in-Ok-clause-fact c = c.in_ok-fact.ensures

pub returns-in-Ok-clause-near : goal.returns-in-Ok-clause-near
returns-in-Ok-clause-near c path at = c.in-Ok.ensures c.args.query.now.vars path at
