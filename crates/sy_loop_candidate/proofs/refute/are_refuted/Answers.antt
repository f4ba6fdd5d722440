use Rattle.std.proofs.Common.{arith}
use Rattle.std.proofs.lemmas.List.{length-map}
use Rattle.sy_grammar_base.specs.Questions.{question_of}
use Rattle.sy_loop_spec.specs.Histories.{Counterexample}
use Rattle.sy_loop_spec.specs.Stored.{counterexample_of, history_of}
use Rattle.sy_loop_candidate.specs.Bodies.{bodies_of}
use Rattle.sy_loop_candidate.specs.Refuting.{IsOpenAt}
use Rattle.sy_loop_candidate.proofs.Places.{all_both}
use Rattle.sy_loop_candidate.proofs.refute.are_refuted.Goals as goal

pub are_refuted_again-requires-clause-ready : goal.are_refuted_again-requires-clause-ready
are_refuted_again-requires-clause-ready g c = record { fit = c.requires.bodies; rows = c.requires.rows; functions = c.requires.functions; taken = c.requires.taken }

pub are_refuted_between-requires-clause-ready : goal.are_refuted_between-requires-clause-ready
are_refuted_between-requires-clause-ready g c = record { fit = c.requires.bodies; rows = c.requires.rows; functions = c.requires.functions; taken = c.requires.taken }

pub are_refuted_between-requires-2-clause-ready : goal.are_refuted_between-requires-2-clause-ready
are_refuted_between-requires-2-clause-ready g c = record { fit = c.requires.bodies; rows = c.requires.rows; functions = c.requires.functions; taken = c.requires.taken }

pub returns-clause-open : goal.returns-clause-open
returns-clause-open g c =
    λ e. all_both (λ (k : Counterexample). IsOpenAt (question_of g.T.Theory.denotes c.args.problem.now) c.args.points.now (bodies_of g.T.Theory.denotes c.args.chosen.now) k.assignment)
    (history_of g.T.Theory.denotes c.args.stored.now) _ _ (omega (arith, c.len-count.ensures, length-map c.args.stored.now.items (counterexample_of g.T.Theory.denotes)))
    (c.in_ok-are_refuted_between.ensures.«open» c.if-branch-2.false) (c.in_ok-refuted.ensures.«open» e)
