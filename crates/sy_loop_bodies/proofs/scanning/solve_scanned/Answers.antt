use Rattle.sy_loop_bodies.proofs.scanning.solve_scanned.Goals as goal

pub returns-clause-assigned : goal.returns-clause-assigned
returns-clause-assigned g c = c.solve_guessed.ensures.assigned

pub returns-clause-found : goal.returns-clause-found
returns-clause-found g c = c.solve_guessed.ensures.found
