use Rattle.sy_loop_bodies.specs.Clauses.{AreAssignedFor}
use Rattle.sy_loop_beyond.proofs.again.solve_over.Given as goal

abbrev pub invariant-loop-size : goal.invariant-loop-size
invariant-loop-size g l = AreAssignedFor g.T.Theory l.task.problem.now l.assignments.items
