use Rattle.sy_loop_beyond.proofs.search.solve_anew.Goals as goal

pub returns : goal.returns
returns g c = c.solve_again.ensures
