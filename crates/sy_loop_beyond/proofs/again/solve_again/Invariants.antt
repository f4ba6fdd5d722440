use Rattle.sy_loop_bodies.specs.Clauses.{AreAssignedFor}
use Rattle.sy_loop_beyond.proofs.again.solve_again.Given as goal

abbrev pub invariant-loop : goal.invariant-loop
invariant-loop g l = AreAssignedFor g.T.Theory l.task.problem.now l.assignments.items
