use Rattle.std.proofs.Common.{arith}
use Rattle.sy_grammar_base.specs.Questions.{question_of}
use Rattle.sy_bank_level.specs.Bank.{merged_of}
use Rattle.sy_loop_bodies.proofs.Small.{kept_small}
use Rattle.sy_loop_beyond.proofs.again.solve_over.Goals as goal
use Rattle.sy_loop_beyond.proofs.again.solve_over.Goals.{else-loop-size-test, then-loop-size-test+in_ok-found+in_default+else-size-upto}

pub solve_kept-requires-clause-kept : goal.solve_kept-requires-clause-kept
solve_kept-requires-clause-kept g c =
    rw c.kept-kept.ensures (kept_small (question_of g.T.Theory.denotes c.args.task.now.problem.now) (merged_of g.T.Theory.denotes c.args.bank.now) c.loop-size.size c.args.task.now.bound c.requires.bank (omega (arith, c.loop-size-test.true)))

pub solve_chosen-requires-clause-assigned : goal.solve_chosen-requires-clause-assigned
solve_chosen-requires-clause-assigned g c = elim c.loop-size-test.branch [
  | else-loop-size-test w ↦ rw w.assignments-is c.loop-size.invariant
  | then-loop-size-test+in_ok-found+in_default+else-size-upto w ↦ rw w.assignments-is (rw w.in_ok-found.was at w.solve_kept.ensures.assigned)
]

pub returns-clause-assigned : goal.returns-clause-assigned
returns-clause-assigned g c = c.solve_chosen.ensures.assigned

pub returns-clause-found : goal.returns-clause-found
returns-clause-found g c = c.solve_chosen.ensures.found
