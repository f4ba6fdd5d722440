use Rattle.std.proofs.Common.{◌∙◌}
use Rattle.std.proofs.lemmas.List.{take_all, take_more}
use Rattle.sy_bank_columns.proofs.lent.Row.into_values.Goals as goal

pub loop-value-preserved : goal.loop-value-preserved
loop-value-preserved g c = cc (take_more c.in-Lent.values.now c.loop-value.value-index c.value-item.result c.loop-value-test.true, c.value-item.is, c.in_ok-push-in-Lent.ensures.items, c.loop-value.invariant)

pub returns-after-loop-value : goal.returns-after-loop-value
returns-after-loop-value g c = rw c.in-Lent.is (c.from.ensures ∙ c.loop-value.invariant ∙ take_all c.loop-value.value-index c.in-Lent.values.now c.loop-value-test.false)

pub returns-in-Own : goal.returns-in-Own
returns-in-Own g c = rw c.in-Own.is c.from-in-Own.ensures
