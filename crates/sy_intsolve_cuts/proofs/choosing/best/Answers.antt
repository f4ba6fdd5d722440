use Rattle.sy_intsolve_cuts.proofs.choosing.best.Goals as goal

pub loop-row-preserved : goal.loop-row-preserved
loop-row-preserved c = c.lesser-least.ensures c.args.vars.now c.args.facts.now c.args.point.now c.loop-row.invariant c.in_ok-found.ensures
