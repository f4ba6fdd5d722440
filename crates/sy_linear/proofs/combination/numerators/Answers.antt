use Rattle.std.proofs.Common.{◌≡◌, ◌∙◌, rules, arith}
use mir.Syntax.{w128}
use mir.Val.{SFits, to_z, of_z}
use Rattle.std.proofs.lemmas.Int.{to_z-of_z}
use Rattle.sy_linear.proofs.Folding.{numerators_kept, numerators_end}
use Rattle.sy_linear.proofs.combination.numerators.Goals as goal

pub loop-share-preserved : goal.loop-share-preserved
loop-share-preserved c =
    let fits : SFits w128 c.num.result = search rules in
    let same : to_z w128 (of_z w128 c.num.result) ≡ c.num.result = to_z-of_z w128 c.num.result fits in
    numerators_kept c.loop-share.all c.push_nonzero.new.list c.args.shares.now c.loop-share.share-index c.share-item.result _ _ c.loop-share-test.true c.share-item.is (same ∙ c.num.ensures.value) c.loop-share.invariant c.in_ok-push_nonzero.ensures

pub returns : goal.returns
returns c = numerators_end c.loop-share.all c.args.shares.now c.loop-share.share-index _ (omega (arith, c.loop-share-test.false)) c.loop-share.invariant
