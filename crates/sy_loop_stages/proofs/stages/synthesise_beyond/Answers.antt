use Rattle.std.proofs.Common.{arith}
use Rattle.sy_grammar_base.specs.Questions.{question_of}
use Rattle.sy_loop_stages.proofs.Staged.{least_beyond}
use Rattle.sy_loop_stages.proofs.stages.synthesise_beyond.Goals as goal

pub returns-then-len-ne1-clause-beyond : goal.returns-then-len-ne1-clause-beyond
returns-then-len-ne1-clause-beyond g c =
    least_beyond g.T.Theory.owned g.T.Theory.denotes g.D.Decide.accepted g.D.Decide.budget g.D.Decide.shows
    (question_of g.T.Theory.denotes c.args.problem.now) c.args.limits.now c.in_ok-outcome.outcome c.in_ok-outcome.ensures.least

pub first_outcome-requires-clause-one : goal.first_outcome-requires-clause-one
first_outcome-requires-clause-one g c = omega (arith, c.if-len-ne1.false, c.len.ensures)
