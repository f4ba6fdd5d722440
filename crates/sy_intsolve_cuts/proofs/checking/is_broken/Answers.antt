use Rattle.std.proofs.Common.{sym, ◌∙◌}
use Rattle.sy_intsolve_cuts.proofs.Adding.{broken_by}
use Rattle.sy_intsolve_cuts.proofs.checking.is_broken.Goals as goal

pub returns-in-Some : goal.returns-in-Some
returns-in-Some c h = broken_by c.args.form.now c.args.point.now c.in-Some.number c.in-Some.ensures (sym c.is_below_zero.ensures ∙ h)
