use Rattle.sy_terms_operators.proofs.Agreement.{same_under}
use Rattle.sy_meaning.proofs.evaluation.evaluate_with.Goals as goal

pub returns-clause-agreement : goal.returns-clause-agreement
returns-clause-agreement g c = λ others agree. same_under _ _ others _ _ agree

pub evaluate_under-requires-clause-definitions : goal.evaluate_under-requires-clause-definitions
evaluate_under-requires-clause-definitions g c = rw (c.as_slice.ensures) c.requires.definitions

pub evaluate_under-requires-clause-term : goal.evaluate_under-requires-clause-term
evaluate_under-requires-clause-term g c = rw (c.as_slice.ensures, c.as_slice-2.ensures) c.requires.term

pub returns-clause-ok : goal.returns-clause-ok
returns-clause-ok g c = rw (c.as_slice.ensures, c.as_slice-2.ensures) at c.evaluate_under.ensures.ok

pub returns-clause-range : goal.returns-clause-range
returns-clause-range g c = λ range. rw (c.as_slice.ensures, c.as_slice-2.ensures) at (c.evaluate_under.ensures.range range)

pub returns-clause-traced : goal.returns-clause-traced
returns-clause-traced g c = rw (c.as_slice.ensures, c.as_slice-2.ensures) at c.evaluate_under.ensures.traced

pub returns-clause-begun : goal.returns-clause-begun
returns-clause-begun g c = rw (c.as_slice.ensures, c.as_slice-2.ensures) at c.evaluate_under.ensures.begun

pub returns-clause-calls : goal.returns-clause-calls
returns-clause-calls g c = rw (c.as_slice.ensures, c.as_slice-2.ensures) at c.evaluate_under.ensures.calls
