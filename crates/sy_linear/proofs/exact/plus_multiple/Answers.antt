use Rattle.std.proofs.Common.{◌≡◌, ◌∙◌, ap}
use mir.Syntax.{w128}
use mir.Val.{to_z, of_z}
use Rattle.std.proofs.lemmas.Int.{to_z-of_z}
use Rattle.sy_linear.specs.Exact.{checked_plus_multiple}
use Rattle.sy_linear.proofs.Lowest.{sum_is, plus_multiple_none, plus_multiple_some}
use Rattle.sy_linear.proofs.exact.plus_multiple.Goals as goal

pub returns-in_default : goal.returns-in_default
returns-in_default c =
    let same : to_z w128 (of_z w128 c.args.number) ≡ c.args.number = to_z-of_z w128 c.args.number c.ranges.number in
    plus_multiple_none c.args.factor.now (to_z w128 (of_z w128 c.args.number)) c.args.addend.now c.in_default.ensures ∙ ap (λ n. checked_plus_multiple c.args.factor.now n c.args.addend.now) same

pub returns : goal.returns
returns c =
    let same : to_z w128 (of_z w128 c.args.number) ≡ c.args.number = to_z-of_z w128 c.args.number c.ranges.number in
    plus_multiple_some c.args.factor.now (to_z w128 (of_z w128 c.args.number)) c.args.addend.now c.in-Some.product c.add.result c.in-Some.ensures (sum_is c.add.result c.in-Some.product c.args.addend.now c.den.ensures.lowest.positive c.den-2.ensures.lowest.positive c.add.ensures)
    ∙ ap (λ n. checked_plus_multiple c.args.factor.now n c.args.addend.now) same
