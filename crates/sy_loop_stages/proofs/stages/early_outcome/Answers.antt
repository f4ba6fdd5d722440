use Rattle.std.proofs.Math.Nat.{le-max_left}
use Rattle.sy_grammar_base.specs.Questions.{question_of}
use Rattle.sy_loop_stages.specs.Stages.{lowered}
use Rattle.sy_loop_stages.proofs.Staged.{after_stage, early_is_stage, lasting}
use Rattle.sy_loop_stages.proofs.stages.early_outcome.Goals as goal

pub returns : goal.returns
returns g c =
    let limits = c.args.limits.now in
    let question = question_of g.T.Theory.denotes c.args.problem.now in
    let outcome = c.in_ok-outcome.outcome in
    let right = rw c.early_stage-stage.ensures at c.in_ok-outcome.ensures.right in
    let found = rw c.early_stage-stage.ensures at c.in_ok-outcome.ensures.found in (
      lasting g.T.Theory.owned g.T.Theory.denotes g.D.Decide.accepted g.D.Decide.budget g.D.Decide.shows question
          limits 1000 2000 500 outcome (c.lasts.ensures c.if-not-lasts.false) right,
      after_stage g.T.Theory.owned g.T.Theory.denotes g.D.Decide.accepted g.D.Decide.budget g.D.Decide.shows
          question limits (lowered 1000 2000 500 limits) outcome (early_is_stage limits) (le-max_left limits.size 1024)
          found,
    )
