use Rattle.sy_loop_bodies.specs.Clauses.{AreAssignedFor}
use Rattle.sy_loop_beyond.proofs.again.solve_wished.Given as goal

abbrev pub invariant-loop-round : goal.invariant-loop-round
invariant-loop-round g l = AreAssignedFor g.T.Theory l.task.problem.now l.assignments.items
