use Rattle.sy_loop_learned.proofs.learned.solve_given.Goals as goal
use Rattle.sy_loop_learned.proofs.learned.solve_given.Goals.{then-not-branch+in_ok-found+in_default-2, else-not-branch}

pub loop-place-preserved : goal.loop-place-preserved
loop-place-preserved g c = elim c.if-not-branch.branch [
  | then-not-branch+in_ok-found+in_default-2 w ↦ rw w.assignments-is (rw w.in_ok-found.was at w.try_formula.ensures.assigned)
  | else-not-branch w ↦ rw w.assignments-is c.loop-place.invariant
]
