use Rattle.std.proofs.Common.{◌∙◌}
use Rattle.sy_linear_known.specs.Sights.{all_truths}
use Rattle.sy_linear_known.proofs.Valid.{truths-before, truths-else}
use Rattle.sy_linear_known.proofs.truths.by_truths_or.Goals as goal

pub returns-in-Ok-Some : goal.returns-in-Ok-Some
returns-in-Ok-Some c = c.told.ensures ∙ truths-before c.args.operator.now (all_truths c.args.sights.now) c.in-Ok-Some.field-0 c.in-Ok-Some.sight c.args.compared c.in-Ok-Some.field-0-is c.in-Ok-Some.ensures

pub returns-in-Ok-None : goal.returns-in-Ok-None
returns-in-Ok-None c = truths-else c.args.operator.now (all_truths c.args.sights.now) c.in-Ok-None.field-0 c.args.compared c.in-Ok-None.field-0-is c.in-Ok-None.ensures
