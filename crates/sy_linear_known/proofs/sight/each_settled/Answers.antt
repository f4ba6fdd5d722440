use Rattle.std.specs.Prelude.{cond}
use Rattle.std.proofs.Common.{sym, ◌∙◌}
use Rattle.sy_linear_known.specs.Sights.{is_true, is_false}
use Rattle.sy_linear_known.proofs.Steps.{all_here, all_next, all_end}
use Rattle.sy_linear_known.proofs.sight.each_settled.Goals as goal

pub returns-then-not-is_settled : goal.returns-then-not-is_settled
returns-then-not-is_settled c = all_here (cond c.args.truth is_true is_false) c.args.sights.now c.loop-sight.sight-index c.sight-item.result _ c.loop-sight-test.true c.sight-item.is (sym c.is_settled.ensures ∙ c.if-not-is_settled.true) c.loop-sight.invariant

pub loop-sight-preserved : goal.loop-sight-preserved
loop-sight-preserved c = all_next (cond c.args.truth is_true is_false) c.args.sights.now c.loop-sight.sight-index c.sight-item.result _ c.loop-sight-test.true c.sight-item.is (sym c.is_settled.ensures ∙ c.if-not-is_settled.false) c.loop-sight.invariant

pub returns : goal.returns
returns c = all_end (cond c.args.truth is_true is_false) c.args.sights.now c.loop-sight.sight-index _ c.loop-sight-test.false c.loop-sight.invariant
