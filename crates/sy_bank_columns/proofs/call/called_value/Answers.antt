use Rattle.sy_bank_columns.proofs.call.called_value.Goals as goal

pub evaluate-requires-clause-term : goal.evaluate-requires-clause-term
evaluate-requires-clause-term g c = rw (c.as_slice.ensures.value, c.new-nothing.ensures.items, c.in_ok-term.ensures) c.requires.fit

pub returns-clause-ok : goal.returns-clause-ok
returns-clause-ok g c = rw (c.as_slice.ensures.value, c.new-nothing.ensures.items, c.in_ok-term.ensures) at c.evaluate.ensures.ok

pub returns-clause-range : goal.returns-clause-range
returns-clause-range g c h = rw (c.as_slice.ensures.value, c.new-nothing.ensures.items, c.in_ok-term.ensures) at (c.evaluate.ensures.range h)
