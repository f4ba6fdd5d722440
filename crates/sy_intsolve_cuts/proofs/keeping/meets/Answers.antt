use Rattle.std.proofs.Common.{sym, ◌∙◌}
use Rattle.sy_intsolve_cuts.proofs.Evaluating.{met-by}
use Rattle.sy_intsolve_cuts.proofs.keeping.meets.Goals as goal

pub returns-in-Some : goal.returns-in-Some
returns-in-Some c h = met-by c.args.fact.now c.in-AtLeast.form c.args.point.now c.in-Some.number c.in-AtLeast.is c.in-Some.ensures (sym c.is_met.ensures ∙ h)
