use Rattle.sy_linear_known.proofs.Steps.{tested_is}
use Rattle.sy_linear_known.proofs.comparisons.tested.Goals as goal

pub returns-in-Ok : goal.returns-in-Ok
returns-in-Ok c = tested_is c.args.path.now c.args.form c.in-Some.form c.in-Ok.negation c.answered.result c.in-Some.is c.in-Ok.ensures.ok c.in-Ok.ensures.fits c.answered.ensures
