use Rattle.sy_linear_known.specs.Forms.{above}
use Rattle.sy_linear_known.proofs.arithmetic.excess.Goals as goal

pub returns-clause-ok : goal.returns-clause-ok
returns-clause-ok c = c.fitting.ensures.ok (above c.args.f.now c.args.g.now) c.above.ensures.ok c.above.ensures.fits c.above.ensures.unfit

pub returns-clause-fits : goal.returns-clause-fits
returns-clause-fits c = c.fitting.ensures.fits c.above.ensures.fits
