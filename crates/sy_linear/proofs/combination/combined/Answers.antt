use Rattle.sy_linear.proofs.Folding.{fold_kept, fold_unfit, fold_stopped, fold_ended}
use Rattle.sy_linear.proofs.combination.combined.Goals as goal

pub returns-in_default-clause-ok : goal.returns-in_default-clause-ok
returns-in_default-clause-ok c = fold_stopped c.loop-fact.sum c.loop-fact.left.now _ _ c.in_default.ensures.cases c.loop-fact.invariant

pub returns-in-Err-clause-unfit : goal.returns-in-Err-clause-unfit
returns-in-Err-clause-unfit c h = fold_unfit c.loop-fact.sum c.loop-fact.left.now c.in-Some.others.now c.args.facts.now c.loop-fact.fact-index c.in-AtLeast.form c.in-Some.factor.now c.fact-item.result _ c.loop-fact-test.true c.fact-item.is c.in-AtLeast.is c.in-Some.ensures.cases.0 (c.in-Err.ensures.unfit h) c.loop-fact.invariant

pub loop-fact-preserved : goal.loop-fact-preserved
loop-fact-preserved c = fold_kept c.loop-fact.sum c.in-Ok.next c.loop-fact.left.now c.in-Some.others.now c.args.facts.now c.loop-fact.fact-index c.in-AtLeast.form c.in-Some.factor.now c.fact-item.result _ c.loop-fact-test.true c.fact-item.is c.in-AtLeast.is c.in-Some.ensures.cases.0 c.in-Ok.ensures.ok c.loop-fact.invariant

pub returns-clause-ok : goal.returns-clause-ok
returns-clause-ok c = fold_ended c.loop-fact.sum c.loop-fact.left.now c.args.facts.now c.loop-fact.fact-index _ c.loop-fact-test.false c.loop-fact.invariant
