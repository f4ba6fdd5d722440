use Rattle.sy_loop_claims.proofs.outcome.left_range.Goals as goal

pub returns-clause-right : goal.returns-clause-right
returns-clause-right g c = c.requires
