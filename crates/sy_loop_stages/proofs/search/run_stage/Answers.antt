use Rattle.std.proofs.Common.{inr}
use Rattle.sy_grammar_base.specs.Questions.{question_of}
use Rattle.sy_loop_stages.proofs.Staged.{least_in}
use Rattle.sy_loop_stages.proofs.search.run_stage.Goals as goal

pub returns-in-Some-clause-right : goal.returns-in-Some-clause-right
returns-in-Some-clause-right g c =
    let found = rw (c.in-Some.is, c.in-Some.bodies-is) at c.in-Ok.ensures in
    found.0

pub returns-in-Some-clause-found : goal.returns-in-Some-clause-found
returns-in-Some-clause-found g c =
    let found = rw (c.in-Some.is, c.in-Some.bodies-is) at c.in-Ok.ensures in
    inr found.1

pub returns-clause-found : goal.returns-clause-found
returns-clause-found g c =
    least_in g.T.Theory.owned g.T.Theory.denotes g.D.Decide.accepted g.D.Decide.budget g.D.Decide.shows (question_of g.T.Theory.denotes c.args.problem.now) c.args.stage.now.limits c.in_ok-outcome.outcome c.in_ok-outcome.ensures.least
