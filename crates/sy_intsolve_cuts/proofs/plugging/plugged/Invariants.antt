use Rattle.std.proofs.Common.{◌≡◌, length}
use Rattle.sy_intsolve_cuts.specs.Steps.{plugged}
use Rattle.sy_intsolve_cuts.specs.Stored.{grown_tree_of, layers_of}
use Rattle.sy_intsolve_cuts.proofs.plugging.plugged.Given as goal

abbrev pub invariant-loop-step : goal.invariant-loop-step
invariant-loop-step l = plugged (layers_of l.left.items) (grown_tree_of l.tree) ≡ plugged (layers_of l.fn.steps.items) (grown_tree_of l.fn.end)

abbrev pub decreases-loop-step : goal.decreases-loop-step
decreases-loop-step l = length l.left.items
