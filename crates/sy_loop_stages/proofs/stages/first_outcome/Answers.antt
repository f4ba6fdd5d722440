use Rattle.sy_grammar_base.specs.Questions.{question_of}
use Rattle.std.proofs.Math.Nat.{le-max_left}
use Rattle.sy_loop_stages.proofs.Staged.{after_stage, whole_is_stage}
use Rattle.sy_loop_stages.proofs.stages.first_outcome.Goals as goal

pub returns : goal.returns
returns g c =
    let limits = c.args.limits.now in
    let right = rw c.whole_stage-stage.ensures at c.in_ok-outcome-2.ensures.right in
    let found = rw c.whole_stage-stage.ensures at c.in_ok-outcome-2.ensures.found in (
      right,
      after_stage g.T.Theory.owned g.T.Theory.denotes g.D.Decide.accepted g.D.Decide.budget g.D.Decide.shows
          (question_of g.T.Theory.denotes c.args.problem.now) limits limits c.in_ok-outcome-2.outcome (whole_is_stage limits)
          (le-max_left limits.size 1024) found,
    )
