use Rattle.sy_loop.proofs.join.chosen_term.Goals as goal

pub returns : goal.returns
returns g c = c.tree_term-term.ensures
