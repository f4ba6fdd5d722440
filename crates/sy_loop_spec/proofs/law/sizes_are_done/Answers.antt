use Rattle.sy_loop_spec.proofs.Done as done
use Rattle.sy_loop_spec.proofs.law.sizes_are_done.Goals as goal

pub returns-clause-begins : goal.returns-clause-begins
returns-clause-begins c = done.begins

pub returns-clause-next : goal.returns-clause-next
returns-clause-next c = done.next

pub returns-clause-stays : goal.returns-clause-stays
returns-clause-stays c = done.stays

pub returns-clause-opens : goal.returns-clause-opens
returns-clause-opens c = done.opens

pub returns-clause-ends : goal.returns-clause-ends
returns-clause-ends c = done.ends
