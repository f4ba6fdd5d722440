use Rattle.sygus_drills.proofs.drill_answers.line_of.Goals as goal

pub returns : goal.returns
returns g c = rw c.in_ok-end.ensures at c.drill_line.ensures
