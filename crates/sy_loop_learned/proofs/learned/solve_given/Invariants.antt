use Rattle.sy_loop_bodies.specs.Clauses.{AreAssignedFor}
use Rattle.sy_loop_learned.proofs.learned.solve_given.Given as goal

abbrev pub invariant-loop-place : goal.invariant-loop-place
invariant-loop-place g l = AreAssignedFor g.T.Theory l.task.problem.now l.assignments.items
