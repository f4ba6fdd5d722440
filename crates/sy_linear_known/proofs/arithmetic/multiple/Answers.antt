use mir.Syntax.{w128}
use mir.Val.{to_z, of_z}
use Rattle.std.specs.Prelude.{◌≡◌, IfOk}
use Rattle.std.proofs.Common.{subst}
use Rattle.std.proofs.lemmas.Int.{to_z-of_z}
use Rattle.sy_linear_known.specs.Forms.{times}
use Rattle.sy_linear_known.specs.Sights.{form_multiple}
use Rattle.sy_linear_known.proofs.arithmetic.multiple.Goals as goal

pub returns-clause-ok : goal.returns-clause-ok
returns-clause-ok c =
    subst (λ factor. IfOk c.fitting.result (λ form. form ≡ form_multiple factor c.args.f.now)) (to_z-of_z w128 c.args.factor c.ranges.factor)
    (c.fitting.ensures.ok (times (to_z w128 (of_z w128 c.args.factor)) c.args.f.now) c.times.ensures.ok c.times.ensures.fits c.times.ensures.unfit)

pub returns-clause-fits : goal.returns-clause-fits
returns-clause-fits c = c.fitting.ensures.fits c.times.ensures.fits
