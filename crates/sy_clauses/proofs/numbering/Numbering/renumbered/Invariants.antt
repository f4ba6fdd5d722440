use Rattle.std.proofs.Common.{◌≡◌, map, take}
use Rattle.sy_clauses.specs.Numbers.{step_renumbered, number_in}
use Rattle.sy_clauses.proofs.numbering.Numbering.renumbered.Given as goal

abbrev pub invariant-loop-step : goal.invariant-loop-step
invariant-loop-step l = l.steps ≡ map (step_renumbered (number_in l.self)) (take l.step-index l.line.steps)
