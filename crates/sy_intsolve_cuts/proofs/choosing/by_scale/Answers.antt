use Rattle.std.specs.Prelude.{pos, IfSome}
use Rattle.std.proofs.Common.{subst}
use Rattle.sy_intsolve_cuts.specs.Cuts.{IsRoundingForm}
use Rattle.sy_intsolve_cuts.proofs.choosing.by_scale.Goals as goal

pub returns : goal.returns
returns c = c.paired.ensures c.args.vars.now c.args.facts.now c.args.point.now (subst (λ ms. IfSome c.in_ok-found.found (IsRoundingForm c.args.vars.now c.args.facts.now ms (pos 1) c.args.point.now)) c.as_slice.ensures c.in_ok-found.ensures)
