use Rattle.sy_loop_bodies.specs.Clauses.{AreAssignedFor}
use Rattle.sy_loop_bodies.proofs.scanning.solve_guessed.Given as goal

abbrev pub invariant-loop : goal.invariant-loop
invariant-loop g l = AreAssignedFor g.T.Theory l.task.problem.now l.assignments.items
