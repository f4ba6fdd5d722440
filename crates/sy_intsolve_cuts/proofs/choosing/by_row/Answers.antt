use Rattle.sy_intsolve_cuts.proofs.choosing.by_row.Goals as goal

pub returns : goal.returns
returns c = c.lesser.ensures c.args.vars.now c.args.facts.now c.args.point.now c.in_ok-below.ensures c.in_ok-above.ensures
