use Rattle.sy_loop_learned.proofs.asking.try_formula.Goals as goal
use Rattle.sy_loop_learned.proofs.asking.try_formula.Goals.{in-Some+in_ok-found+in_default-2, in_default}

pub returns-clause-assigned : goal.returns-clause-assigned
returns-clause-assigned g c = elim c.match-branch-2.branch [
  | in-Some+in_ok-found+in_default-2 w ↦ rw w.assignments-is (rw w.in_ok-found.was at w.try_new.ensures.assigned)
  | in_default w ↦ rw w.assignments-is c.requires.assigned
]
