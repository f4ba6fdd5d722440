use Rattle.sy_loop_beyond.proofs.search.solve_beyond.Goals as goal

pub returns : goal.returns
returns g c = c.solve_onwards.ensures
