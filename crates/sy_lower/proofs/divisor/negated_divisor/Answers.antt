use Rattle.std.proofs.Common.{◌∙◌, ap}
use Rattle.sy_lower_laws.specs.Lowering.{negated_divisor}
use Rattle.sy_lower.proofs.Divided.{not_one, only}
use Rattle.sy_lower.proofs.divisor.negated_divisor.Goals as goal

pub returns-then-arguments-ne1 : goal.returns-then-arguments-ne1
returns-then-arguments-ne1 c = not_one c.args.arguments.now c.if-arguments-ne1.true

pub returns : goal.returns
returns c = c.negated_constant.ensures ∙ ap negated_divisor (only c.args.arguments.now c.index-arguments-0.result c.if-arguments-ne1.false c.index-arguments-0.is)
