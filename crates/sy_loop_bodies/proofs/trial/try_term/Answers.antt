use Rattle.sy_loop_bodies.proofs.trial.try_term.Goals as goal

pub returns-clause-assigned : goal.returns-clause-assigned
returns-clause-assigned g c = c.try_body.ensures.assigned

pub returns-clause-found : goal.returns-clause-found
returns-clause-found g c = c.try_body.ensures.found
