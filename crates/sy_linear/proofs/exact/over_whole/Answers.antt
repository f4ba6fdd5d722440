use Rattle.std.proofs.Common.{◌≡◌, ◌∙◌, ap, subst, sym}
use Rattle.std.specs.Prelude.{Some, None, pos, ◌≤ℤ◌}
use mir.Syntax.{w128}
use mir.Val.{to_z, of_z}
use Rattle.std.proofs.lemmas.Int.{to_z-of_z}
use Rattle.sy_linear.specs.Exact.{over_whole}
use Rattle.sy_linear.proofs.Lowest.{whole_is, quotient_is, whole_nonzero, over_whole_none, over_whole_some}
use Rattle.sy_linear.proofs.exact.over_whole.Goals as goal

pub returns-in_default : goal.returns-in_default
returns-in_default c =
    let same : to_z w128 (of_z w128 c.args.divisor) ≡ c.args.divisor = to_z-of_z w128 c.args.divisor c.ranges.divisor in
    over_whole_none (to_z w128 (of_z w128 c.args.divisor)) c.args.fraction.now (whole_is None (to_z w128 (of_z w128 c.args.divisor)) c.in_default.ensures) ∙ ap (λ d. over_whole d c.args.fraction.now) same

pub div-requires : goal.div-requires
div-requires c =
    let same : to_z w128 (of_z w128 c.args.divisor) ≡ c.args.divisor = to_z-of_z w128 c.args.divisor c.ranges.divisor in
    whole_nonzero c.in-Some.whole (to_z w128 (of_z w128 c.args.divisor)) (subst (λ d. pos 1 ≤ℤ d) (sym same) c.requires) c.in-Some.ensures.1

pub returns : goal.returns
returns c =
    let same : to_z w128 (of_z w128 c.args.divisor) ≡ c.args.divisor = to_z-of_z w128 c.args.divisor c.ranges.divisor in
    over_whole_some (to_z w128 (of_z w128 c.args.divisor)) c.args.fraction.now c.in-Some.whole c.div.result (whole_is (Some c.in-Some.whole) (to_z w128 (of_z w128 c.args.divisor)) c.in-Some.ensures)
    (quotient_is c.div.result c.args.fraction.now c.in-Some.whole c.den-positive.ensures.lowest.positive (whole_nonzero c.in-Some.whole (to_z w128 (of_z w128 c.args.divisor)) (subst (λ d. pos 1 ≤ℤ d) (sym same) c.requires) c.in-Some.ensures.1) c.div.ensures)
    ∙ ap (λ d. over_whole d c.args.fraction.now) same
