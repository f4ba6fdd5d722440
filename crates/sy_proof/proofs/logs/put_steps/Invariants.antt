use Rattle.std.proofs.Common.{◌≡◌, ◌++◌, take, drop}
use Rattle.std.specs.Prelude.{All}
use Rattle.sy_proof.specs.Lists.{spaced}
use Rattle.sy_proof.specs.Logs.{steps_items, StepIsSmall}
use Rattle.sy_proof.proofs.logs.put_steps.Given as goal

abbrev pub invariant-loop-step : goal.invariant-loop-step
invariant-loop-step l = record {
  text : l.out ++ spaced (steps_items (drop l.step-index l.steps)) ≡ l.fn.out ++ spaced (steps_items l.steps);
  small : All StepIsSmall (take l.step-index l.steps);
}
