use Rattle.sy_loop_beyond.proofs.again.solve_round.Goals as goal

pub solve_over-requires-clause-bank : goal.solve_over-requires-clause-bank
solve_over-requires-clause-bank g c = rw c.in-Some.is at c.in_ok-bank.ensures

pub solve_last-requires-clause-assigned : goal.solve_last-requires-clause-assigned
solve_last-requires-clause-assigned g c = rw c.in_ok-found.was at c.solve_over.ensures.assigned

pub returns-clause-assigned : goal.returns-clause-assigned
returns-clause-assigned g c = c.solve_last.ensures.assigned

pub returns-clause-found : goal.returns-clause-found
returns-clause-found g c = c.solve_last.ensures.found
