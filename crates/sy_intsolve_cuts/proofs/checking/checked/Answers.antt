use Rattle.std.proofs.Common.{sym, ◌∙◌}
use Rattle.sy_intsolve_cuts.proofs.Adding.{adds_form, all_checked}
use Rattle.sy_intsolve_cuts.proofs.checking.checked.Goals as goal

pub returns : goal.returns
returns c = all_checked c.args.vars.now c.args.facts.now c.args.multipliers.now c.args.point.now _ c.suited.result c.suited.ensures (adds_form 0 c.in-Ok-Some-AtLeast.field-0 c.in-Ok-Some-AtLeast.field-0-0 _ _ c.in-Ok-Some-AtLeast.field-0-is c.in-Ok-Some-AtLeast.field-0-0-is c.in-Ok-Some-AtLeast.ensures) (sym c.are_below_one.ensures ∙ c.if-not-are_below_one.false) (c.is_broken.ensures c.if-not-is_broken.false)
