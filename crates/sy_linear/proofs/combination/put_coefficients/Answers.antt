use Rattle.std.proofs.Common.{◌∙◌, ap, refl, rules}
use Rattle.std.specs.Prelude.{Some, None}
use mir.Syntax.{w128}
use mir.Val.{SFits}
use Rattle.std.proofs.lemmas.Int.{to_z-of_z}
use Rattle.sy_linear.specs.Exact.{whole_multiple, checked_plus_multiple}
use Rattle.sy_linear.proofs.Folding.{no_items, alone_is, new_is, old_is, both_is, sum_kept, sum_unfit, sum_end}
use Rattle.sy_linear.proofs.combination.put_coefficients.Goals as goal

pub returns-in_default-multiple-clause-unfit : goal.returns-in_default-multiple-clause-unfit
returns-in_default-multiple-clause-unfit c h =
    let fits : SFits w128 c.number_of-number.result = search rules in
    let number = to_z-of_z w128 c.number_of-number.result fits ∙ c.number_of-number.ensures in
    sum_unfit c.loop-first.all c.in-Some.first.now.0 None _ _ _ _ (alone_is c.args.factor.now c.loop-first.cs.now c.in-Some.others.now c.loop-first.qs.now c.in-Some.first.now c.in-Some.ensures.cases.0 c.in_default-split_first.ensures.cases) (c.in_default-multiple.ensures ∙ ap (whole_multiple c.args.factor.now) number) c.loop-first.invariant refl

pub loop-first-preserved-in_default-split_first : goal.loop-first-preserved-in_default-split_first
loop-first-preserved-in_default-split_first c =
    let fits : SFits w128 c.number_of-number.result = search rules in
    let number = to_z-of_z w128 c.number_of-number.result fits ∙ c.number_of-number.ensures in
    sum_kept c.loop-first.all c.push_share.new.list c.in-Some.first.now.0 (Some c.in-Some-multiple.weight) _ _ _ _ (alone_is c.args.factor.now c.loop-first.cs.now c.in-Some.others.now c.loop-first.qs.now c.in-Some.first.now c.in-Some.ensures.cases.0 c.in_default-split_first.ensures.cases) (c.in-Some-multiple.ensures ∙ ap (whole_multiple c.args.factor.now) number) c.loop-first.invariant c.in_ok-push_share.ensures

pub returns-in_default-multiple-2-clause-unfit : goal.returns-in_default-multiple-2-clause-unfit
returns-in_default-multiple-2-clause-unfit c h =
    let fits : SFits w128 c.number_of-number.result = search rules in
    let number = to_z-of_z w128 c.number_of-number.result fits ∙ c.number_of-number.ensures in
    sum_unfit c.loop-first.all c.in-Some.first.now.0 None _ _ _ _ (new_is c.args.factor.now c.loop-first.cs.now c.in-Some.others.now c.loop-first.qs.now c.in-Some-split_first.later.now c.in-Some.first.now c.in-Some-split_first.share.now c.in-Some.ensures.cases.0 c.in-Some-split_first.ensures.cases.0 c.if-variable-share.true) (c.in_default-multiple-2.ensures ∙ ap (whole_multiple c.args.factor.now) number) c.loop-first.invariant refl

pub loop-first-preserved-then-variable-share : goal.loop-first-preserved-then-variable-share
loop-first-preserved-then-variable-share c =
    let fits : SFits w128 c.number_of-number.result = search rules in
    let number = to_z-of_z w128 c.number_of-number.result fits ∙ c.number_of-number.ensures in
    sum_kept c.loop-first.all c.push_share-then-variable-share.new.list c.in-Some.first.now.0 (Some c.in-Some-multiple-2.weight) _ _ _ _ (new_is c.args.factor.now c.loop-first.cs.now c.in-Some.others.now c.loop-first.qs.now c.in-Some-split_first.later.now c.in-Some.first.now c.in-Some-split_first.share.now c.in-Some.ensures.cases.0 c.in-Some-split_first.ensures.cases.0 c.if-variable-share.true) (c.in-Some-multiple-2.ensures ∙ ap (whole_multiple c.args.factor.now) number) c.loop-first.invariant c.in_ok-push_share-2.ensures

pub loop-first-preserved-then-share-variable : goal.loop-first-preserved-then-share-variable
loop-first-preserved-then-share-variable c =
    sum_kept c.loop-first.all c.push_share-then-share-variable.new.list c.in-Some-split_first.share.now.variable (Some c.in-Some-split_first.share.now.weight) _ _ _ _ (old_is c.args.factor.now c.loop-first.cs.now c.in-Some.others.now c.loop-first.qs.now c.in-Some-split_first.later.now c.in-Some.first.now c.in-Some-split_first.share.now c.in-Some.ensures.cases.0 c.in-Some-split_first.ensures.cases.0 c.if-variable-share.false c.if-share-variable.true) refl c.loop-first.invariant c.in_ok-push_share-3.ensures

pub returns-in_default-plus_multiple-clause-unfit : goal.returns-in_default-plus_multiple-clause-unfit
returns-in_default-plus_multiple-clause-unfit c h =
    let fits : SFits w128 c.number_of-number.result = search rules in
    let number = to_z-of_z w128 c.number_of-number.result fits ∙ c.number_of-number.ensures in
    sum_unfit c.loop-first.all c.in-Some.first.now.0 None _ _ _ _ (both_is c.args.factor.now c.loop-first.cs.now c.in-Some.others.now c.loop-first.qs.now c.in-Some-split_first.later.now c.in-Some.first.now c.in-Some-split_first.share.now c.in-Some.ensures.cases.0 c.in-Some-split_first.ensures.cases.0 c.if-variable-share.false c.if-share-variable.false) (c.in_default-plus_multiple.ensures ∙ ap (λ n. checked_plus_multiple c.args.factor.now n c.in-Some-split_first.share.now.weight) number) c.loop-first.invariant refl

pub loop-first-preserved : goal.loop-first-preserved
loop-first-preserved c =
    let fits : SFits w128 c.number_of-number.result = search rules in
    let number = to_z-of_z w128 c.number_of-number.result fits ∙ c.number_of-number.ensures in
    sum_kept c.loop-first.all c.push_share-else-share-variable.new.list c.in-Some.first.now.0 (Some c.in-Some-plus_multiple.weight) _ _ _ _ (both_is c.args.factor.now c.loop-first.cs.now c.in-Some.others.now c.loop-first.qs.now c.in-Some-split_first.later.now c.in-Some.first.now c.in-Some-split_first.share.now c.in-Some.ensures.cases.0 c.in-Some-split_first.ensures.cases.0 c.if-variable-share.false c.if-share-variable.false) (c.in-Some-plus_multiple.ensures ∙ ap (λ n. checked_plus_multiple c.args.factor.now n c.in-Some-split_first.share.now.weight) number) c.loop-first.invariant c.in_ok-push_share-4.ensures

pub returns-clause-ok : goal.returns-clause-ok
returns-clause-ok c = sum_end c.args.factor.now c.loop-first.cs.now c.loop-first.qs.now c.loop-first.all c.push_all.new.list _ (no_items c.loop-first.cs.now c.in_default.ensures.cases) c.in_ok-push_all.ensures c.loop-first.invariant
