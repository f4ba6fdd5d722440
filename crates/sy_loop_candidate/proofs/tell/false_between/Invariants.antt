use Rattle.sy_terms.specs.Denoted.{vals_of}
use Rattle.sy_grammar_base.specs.Questions.{question_of}
use Rattle.sy_loop_candidate.specs.Bodies.{bodies_of}
use Rattle.sy_loop_candidate.specs.Refuting.{AreUnrefuted}
use Rattle.sy_loop_candidate.proofs.tell.false_between.Given as goal

abbrev pub invariant-loop-place : goal.invariant-loop-place
invariant-loop-place g l =
    AreUnrefuted (question_of g.T.Theory.denotes l.problem) l.points (bodies_of g.T.Theory.denotes l.chosen) (vals_of g.T.Theory.denotes l.values) l.from l.place
