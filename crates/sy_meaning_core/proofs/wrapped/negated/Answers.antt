use Rattle.std.proofs.Common.{◌∙◌}
use Rattle.sy_meaning_core.proofs.Masks.{is_fit, lowest_fits}
use Rattle.sy_meaning_core.proofs.Wrapping.{wrap_neg}
use Rattle.sy_meaning_core.proofs.wrapped.negated.Goals as goal

pub returns-clause-is : goal.returns-clause-is
returns-clause-is c =
    let fit = is_fit c.args.width c.args.s c.requires in
    c.lowest.ensures ∙ wrap_neg c.args.s c.args.width fit.2 fit.1

pub returns-clause-fits : goal.returns-clause-fits
returns-clause-fits c =
    let fit = is_fit c.args.width c.args.s c.requires in
    rw c.lowest.ensures (lowest_fits c.args.width _ fit.0 fit.1)
