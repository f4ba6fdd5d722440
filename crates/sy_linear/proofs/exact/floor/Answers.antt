use Rattle.std.proofs.Common.{◌≡◌, ◌∙◌, rules}
use mir.Syntax.{w128}
use mir.Val.{SFits, to_z, of_z}
use Rattle.std.proofs.lemmas.Int.{to_z-of_z}
use Rattle.sy_linear.proofs.Lowest.{floor_is}
use Rattle.sy_linear.proofs.exact.floor.Goals as goal

pub returns : goal.returns
returns c =
    let fits : SFits w128 c.floor.result = search rules in
    let same : to_z w128 (of_z w128 c.floor.result) ≡ c.floor.result = to_z-of_z w128 c.floor.result fits in
    same ∙ floor_is c.args.fraction.now.num c.floor.result c.args.fraction.now.den c.den-positive.ensures.lowest.positive c.floor.ensures.below c.floor.ensures.next
