use Rattle.sy_grammar_base.specs.Questions.{question_of}
use Rattle.sy_loop_candidate.specs.Bodies.{bodies_of}
use Rattle.sy_loop_candidate.proofs.Telling.{assigned_at, refuted_at}
use Rattle.sy_loop_candidate.proofs.refute.are_refuted_again.Goals as goal

pub is_violated_by-requires-clause-values : goal.is_violated_by-requires-clause-values
is_violated_by-requires-clause-values g c =
    rw c.as_slice-values.ensures
    (assigned_at g.T.Theory.denotes (question_of g.T.Theory.denotes c.args.problem.now) c.args.stored.now c.assignment-place.result (c.in-Some.assignment.now, c.in-Some.field-0-1.now) c.in-Some.ensures c.requires.stored)

pub returns-then-branch : goal.returns-then-branch
returns-then-branch g c =
    λ _. refuted_at g.T.Theory.denotes (question_of g.T.Theory.denotes c.args.problem.now) c.args.stored.now c.assignment-place.result (c.in-Some.assignment.now, c.in-Some.field-0-1.now) c.in-Some.ensures
    c.args.points.now (bodies_of g.T.Theory.denotes c.args.chosen.now) (rw c.as_slice-values.ensures at (c.in_ok-is_violated_by.ensures c.if-branch.true))
