use Rattle.std.proofs.Common.{◌<◌, length, get_or, refl, subst, arith, List}
use Rattle.std.specs.Prelude.{All}
use Rattle.std.proofs.lemmas.List.{take_all}
use Rattle.std.proofs.lemmas.List.Elements.{All-more}
use Rattle.sy_clauses.specs.declared.Step.{Step}
use Rattle.sy_proof.specs.Lists.{spaced}
use Rattle.sy_proof.specs.Logs.{step_text, steps_items, StepIsSmall}
use Rattle.sy_proof.proofs.Lists.{written_step}
use Rattle.sy_proof.proofs.LogsAgain.{first_step_text}
use Rattle.sy_proof.proofs.logs.put_steps.Goals as goal

pub loop-step-preserved : goal.loop-step-preserved
loop-step-preserved c =
    let zero : Step = record { var = 0; with = 0 } in
    let within : c.loop-step.step-index < length c.args.steps.now = omega arith in
    record {
      text = written_step (λ (steps : List Step). spaced (steps_items steps)) step_text first_step_text c.args.steps.now c.loop-step.step-index (get_or c.args.steps.now c.loop-step.step-index zero) zero c.loop-step.out c.put_step.new.out _ within refl c.in_ok-put_step.ensures.text c.loop-step.invariant.text;
      small = All-more StepIsSmall c.args.steps.now c.loop-step.step-index zero within c.loop-step.invariant.small c.in_ok-put_step.ensures.small;
    }

pub returns-clause-small : goal.returns-clause-small
returns-clause-small c = subst (All StepIsSmall) (take_all c.loop-step.step-index c.args.steps.now (omega arith)) c.loop-step.invariant.small
