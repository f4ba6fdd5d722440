use Rattle.sy_linear_known.specs.Forms.{form_minus}
use Rattle.sy_linear_known.proofs.arithmetic.difference.Goals as goal

pub returns-clause-ok : goal.returns-clause-ok
returns-clause-ok c = c.fitting.ensures.ok (form_minus c.args.f.now c.args.g.now) c.minus.ensures.ok c.minus.ensures.fits c.minus.ensures.unfit

pub returns-clause-fits : goal.returns-clause-fits
returns-clause-fits c = c.fitting.ensures.fits c.minus.ensures.fits
