use Rattle.std.proofs.Common.{refl, rules}
use Rattle.sy_linear_known.proofs.Steps.{made-built, unmade-built, made-fits}
use Rattle.sy_linear_known.proofs.arithmetic.fitting.Goals as goal

pub returns-in-Ok-clause-ok : goal.returns-in-Ok-clause-ok
returns-in-Ok-clause-ok c f same fits unfit = made-built c.args.made f c.in-Ok.form c.in-Ok.is same fits

pub returns-in-Ok-clause-fits : goal.returns-in-Ok-clause-fits
returns-in-Ok-clause-fits c fits = made-fits c.args.made c.in-Ok.form c.in-Ok.is fits

pub returns-in-Err-OutOfRange-clause-ok : goal.returns-in-Err-OutOfRange-clause-ok
returns-in-Err-OutOfRange-clause-ok c f same fits unfit = unmade-built f (unfit (search rules))

pub returns-in-Err-OutOfRange-clause-fits : goal.returns-in-Err-OutOfRange-clause-fits
returns-in-Err-OutOfRange-clause-fits c fits = refl
