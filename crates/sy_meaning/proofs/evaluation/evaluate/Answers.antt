use Rattle.sy_meaning.proofs.evaluation.evaluate.Goals as goal

pub evaluate_under-requires-clause-definitions : goal.evaluate_under-requires-clause-definitions
evaluate_under-requires-clause-definitions g c = rw (c.as_slice.ensures) c.requires.definitions

pub evaluate_under-requires-clause-term : goal.evaluate_under-requires-clause-term
evaluate_under-requires-clause-term g c = rw (c.as_slice.ensures, c.as_slice-2.ensures, c.new-bodies.ensures) c.requires.term

pub returns-clause-ok : goal.returns-clause-ok
returns-clause-ok g c = rw (c.as_slice.ensures, c.as_slice-2.ensures, c.new-bodies.ensures) at c.evaluate_under.ensures.ok

pub returns-clause-range : goal.returns-clause-range
returns-clause-range g c = λ range. rw (c.as_slice.ensures, c.as_slice-2.ensures, c.new-bodies.ensures) at (c.evaluate_under.ensures.range range)
