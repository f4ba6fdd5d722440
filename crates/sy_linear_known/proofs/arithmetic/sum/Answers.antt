use Rattle.sy_linear_known.specs.Forms.{form_plus}
use Rattle.sy_linear_known.proofs.arithmetic.sum.Goals as goal

pub returns-clause-ok : goal.returns-clause-ok
returns-clause-ok c = c.fitting.ensures.ok (form_plus c.args.f.now c.args.g.now) c.plus.ensures.ok c.plus.ensures.fits c.plus.ensures.unfit

pub returns-clause-fits : goal.returns-clause-fits
returns-clause-fits c = c.fitting.ensures.fits c.plus.ensures.fits
