use Rattle.sy_loop_literals.proofs.sums.common.Given as goal

abbrev pub decreases-loop-y : goal.decreases-loop-y
decreases-loop-y l = l.y
