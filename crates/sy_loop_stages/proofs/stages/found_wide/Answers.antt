use Rattle.sy_grammar_base.specs.Questions.{question_of}
use Rattle.sy_loop_spec.specs.declared.outcome.Outcome.TheVariants.{Found}
use Rattle.sy_loop_stages.proofs.Staged.{found_within}
use Rattle.sy_loop_stages.proofs.stages.found_wide.Goals as goal

pub returns-in-Found : goal.returns-in-Found
returns-in-Found g c =
    let right = rw c.in-Found.is at c.in_ok-outcome.ensures.right in
    let found = rw c.in-Found.is at c.in_ok-outcome.ensures.found in (
      right,
      found_within g.T.Theory.owned g.T.Theory.denotes g.D.Decide.accepted g.D.Decide.budget g.D.Decide.shows
          (question_of g.T.Theory.denotes c.args.problem.now) c.args.limits.now _
          (Found c.in-Found.bodies c.in-Found.proof) c.requires.stopped c.wide_stage-stage.ensures found,
    )
