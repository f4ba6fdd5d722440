use Rattle.sy_loop_bodies.specs.Clauses.{AreAssignedFor}
use Rattle.sy_loop_beyond.proofs.again.add_mixed.Given as goal

abbrev pub invariant-loop-seed : goal.invariant-loop-seed
invariant-loop-seed g l = AreAssignedFor g.T.Theory l.task.problem.now l.assignments.items
