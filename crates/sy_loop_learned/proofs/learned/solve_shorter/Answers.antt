use Rattle.sy_loop_learned.proofs.learned.solve_shorter.Goals as goal
use Rattle.sy_loop_learned.proofs.learned.solve_shorter.Goals.{in-Some-2, in_default-2}

pub loop-preserved : goal.loop-preserved
loop-preserved g c = (
  c.in_ok-found.ensures.assigned,
  elim c.match-branch-4.branch [
    | in-Some-2 w ↦ rw w.best-is (rw w.in-Some-2.is at c.in_ok-found.ensures.found)
    | in_default-2 w ↦ rw w.best-is c.loop.invariant.1
  ],
)
