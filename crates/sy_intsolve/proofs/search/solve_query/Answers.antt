use Rattle.sy_intsolve.proofs.search.solve_query.Goals as goal

pub returns : goal.returns
returns c = c.search_twice.ensures
