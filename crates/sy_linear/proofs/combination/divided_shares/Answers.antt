use Rattle.std.proofs.Common.{◌≡◌, ◌∙◌, ap, sym, refl}
use mir.Syntax.{w128}
use mir.Val.{to_z, of_z}
use Rattle.std.proofs.lemmas.Int.{to_z-of_z}
use Rattle.std.specs.Prelude.{Some, None}
use Rattle.sy_linear.specs.Combining.{divided_shares}
use Rattle.sy_linear.proofs.Folding.{no_items, divided_kept, divided_unfit, divided_end}
use Rattle.sy_linear.proofs.combination.divided_shares.Goals as goal

pub returns-in_default-over_whole-clause-unfit : goal.returns-in_default-over_whole-clause-unfit
returns-in_default-over_whole-clause-unfit c h =
    let same : to_z w128 (of_z w128 c.args.divisor) ≡ c.args.divisor = to_z-of_z w128 c.args.divisor c.ranges.divisor in
    sym (ap (λ d. divided_shares d c.args.shares.now) same)
    ∙ divided_unfit _ c.loop-share.left.now c.in-Some.others.now c.args.shares.now c.loop-share.all c.in-Some.share.now None c.in-Some.ensures.cases.0 c.in_default-over_whole.ensures c.loop-share.invariant refl

pub loop-share-preserved : goal.loop-share-preserved
loop-share-preserved c = divided_kept _ c.loop-share.left.now c.in-Some.others.now c.args.shares.now c.loop-share.all c.push_share.new.list c.in-Some.share.now (Some c.in-Some-over_whole.weight) c.in-Some.ensures.cases.0 c.in-Some-over_whole.ensures c.loop-share.invariant c.in_ok-push_share.ensures

pub returns-clause-ok : goal.returns-clause-ok
returns-clause-ok c =
    let same : to_z w128 (of_z w128 c.args.divisor) ≡ c.args.divisor = to_z-of_z w128 c.args.divisor c.ranges.divisor in
    sym (ap (λ d. divided_shares d c.args.shares.now) same)
    ∙ divided_end _ c.loop-share.left.now c.args.shares.now c.loop-share.all (no_items c.loop-share.left.now c.in_default.ensures.cases) c.loop-share.invariant
