use Rattle.std.proofs.Common.{◌≡◌, ◌∙◌, ap}
use Rattle.std.specs.Prelude.{Some, None}
use mir.Syntax.{w128}
use mir.Val.{to_z, of_z}
use Rattle.std.proofs.lemmas.Int.{to_z-of_z}
use Rattle.sy_linear.specs.Exact.{whole_multiple}
use Rattle.sy_linear.proofs.Lowest.{whole_is, multiplied_is, multiple_none, multiple_some}
use Rattle.sy_linear.proofs.exact.multiple.Goals as goal

pub returns-in_default : goal.returns-in_default
returns-in_default c =
    let same : to_z w128 (of_z w128 c.args.number) ≡ c.args.number = to_z-of_z w128 c.args.number c.ranges.number in
    multiple_none c.args.factor.now _ (whole_is None (to_z w128 (of_z w128 c.args.number)) c.in_default.ensures) ∙ ap (whole_multiple c.args.factor.now) same

pub returns : goal.returns
returns c =
    let same : to_z w128 (of_z w128 c.args.number) ≡ c.args.number = to_z-of_z w128 c.args.number c.ranges.number in
    multiple_some c.args.factor.now c.in-Some.whole _ c.mul.result (whole_is (Some c.in-Some.whole) (to_z w128 (of_z w128 c.args.number)) c.in-Some.ensures)
    (multiplied_is c.mul.result c.args.factor.now c.in-Some.whole c.den-positive.ensures.lowest.positive c.in-Some.ensures.1.lowest.positive c.mul.ensures)
    ∙ ap (whole_multiple c.args.factor.now) same
