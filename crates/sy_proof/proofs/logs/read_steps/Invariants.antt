use Rattle.std.proofs.Common.{length}
use Rattle.sy_text_items.specs.Items.{listed}
use Rattle.sy_forms_items.specs.Views.{items_in}
use Rattle.sy_proof.specs.Logs.{steps_in}
use Rattle.sy_proof.proofs.Lists.{Onward}
use Rattle.sy_proof.proofs.logs.read_steps.Given as goal

abbrev pub invariant-loop-var : goal.invariant-loop-var
invariant-loop-var l = Onward l.steps (steps_in (items_in l.left)) (steps_in (items_in l.fn.items))

abbrev pub decreases-loop-var : goal.decreases-loop-var
decreases-loop-var l = length (listed (items_in l.left))
