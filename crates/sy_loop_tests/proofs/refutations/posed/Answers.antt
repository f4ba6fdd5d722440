use Rattle.sy_loop_tests.proofs.Refuting.{constants-fit}
use Rattle.sy_loop_tests.proofs.refutations.posed.Goals as goal

pub returns-clause-fits : goal.returns-clause-fits
returns-clause-fits g c =
    constants-fit (record { defs = c.new-defs.result; vars = c.new-vars.result; wanted = c.new-wanted.result; assumptions = c.constant-assumptions.result; constraints = c.constant-constraints.result; pool = c.new-pool.result })
    c.args.assumption c.args.constraint c.new-defs.ensures c.new-vars.ensures c.new-wanted.ensures c.constant-assumptions.ensures c.constant-constraints.ensures
