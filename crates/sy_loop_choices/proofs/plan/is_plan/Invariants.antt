use Rattle.std.proofs.Common.{◌≡◌, ◌<◌, ℕ, Some}
use Rattle.std.specs.Prelude.{slice_get}
use Rattle.sy_loop_choices.specs.declared.plan.Node.{Node}
use Rattle.sy_loop_choices.specs.Plans.{IsStep}
use Rattle.sy_loop_choices.proofs.plan.is_plan.Given as goal

abbrev pub invariant-loop-number : goal.invariant-loop-number
invariant-loop-number l = (k : ℕ) (step : Node) → k < l.number → slice_get l.nodes k ≡ Some step → IsStep l.pools l.shapes k step
