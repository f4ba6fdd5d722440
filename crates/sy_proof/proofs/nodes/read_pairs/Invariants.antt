use Rattle.std.proofs.Common.{length}
use Rattle.sy_text_items.specs.Items.{listed}
use Rattle.sy_forms_items.specs.Views.{items_in}
use Rattle.sy_proof.specs.Lists.{each_in}
use Rattle.sy_proof.specs.Nodes.{pair_in}
use Rattle.sy_proof.proofs.Lists.{Onward}
use Rattle.sy_proof.proofs.nodes.read_pairs.Given as goal

abbrev pub invariant-loop-item : goal.invariant-loop-item
invariant-loop-item l = Onward l.pairs (each_in pair_in (items_in l.left)) (each_in pair_in (items_in l.fn.items))

abbrev pub decreases-loop-item : goal.decreases-loop-item
decreases-loop-item l = length (listed (items_in l.left))
