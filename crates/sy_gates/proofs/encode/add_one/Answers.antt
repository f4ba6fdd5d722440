use Rattle.sy_gates.proofs.encode.add_one.Goals as goal

pub returns : goal.returns
returns c = c.add_clause.ensures
