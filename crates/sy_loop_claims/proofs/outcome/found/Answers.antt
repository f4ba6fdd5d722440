use Rattle.sy_loop_claims.proofs.outcome.found.Goals as goal

pub returns-clause-right : goal.returns-clause-right
returns-clause-right g c = c.requires.solution

pub returns-clause-least : goal.returns-clause-least
returns-clause-least g c = c.requires.least
