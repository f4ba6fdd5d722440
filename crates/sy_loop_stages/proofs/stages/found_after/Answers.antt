use Rattle.sy_grammar_base.specs.Questions.{question_of}
use Rattle.sy_loop_stages.proofs.Staged.{has_stopped}
use Rattle.sy_loop_stages.proofs.stages.found_after.Goals as goal

pub found_wider-requires-clause-stopped : goal.found_wider-requires-clause-stopped
found_wider-requires-clause-stopped g c =
    has_stopped g.T.Theory.owned g.T.Theory.denotes g.D.Decide.accepted g.D.Decide.budget g.D.Decide.shows
    (question_of g.T.Theory.denotes c.args.problem.now) c.args.limits.now c.in-Fail.cause
    (rw c.in-Fail.is at c.requires.right)

pub found_again-requires-clause-stopped : goal.found_again-requires-clause-stopped
found_again-requires-clause-stopped g c =
    has_stopped g.T.Theory.owned g.T.Theory.denotes g.D.Decide.accepted g.D.Decide.budget g.D.Decide.shows
    (question_of g.T.Theory.denotes c.args.problem.now) c.args.limits.now c.in-Fail.cause
    (rw c.in-Fail.is at c.requires.right)
