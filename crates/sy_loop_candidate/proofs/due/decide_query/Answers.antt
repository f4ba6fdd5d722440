use Rattle.sy_loop_candidate.proofs.due.decide_query.Goals as goal

pub returns : goal.returns
returns g c = c.decide-answer.ensures
