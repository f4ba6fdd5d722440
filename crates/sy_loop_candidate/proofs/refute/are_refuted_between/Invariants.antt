use Rattle.sy_grammar_base.specs.Questions.{question_of}
use Rattle.sy_loop_spec.specs.Stored.{history_of}
use Rattle.sy_loop_candidate.specs.Bodies.{bodies_of}
use Rattle.sy_loop_candidate.specs.Refuting.{IsOpenWithin}
use Rattle.sy_loop_candidate.proofs.refute.are_refuted_between.Given as goal

abbrev pub invariant-loop-place : goal.invariant-loop-place
invariant-loop-place g l =
    IsOpenWithin (question_of g.T.Theory.denotes l.problem) (history_of g.T.Theory.denotes l.stored) l.points (bodies_of g.T.Theory.denotes l.chosen) l.from l.place
