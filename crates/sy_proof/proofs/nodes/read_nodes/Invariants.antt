use Rattle.std.proofs.Common.{length}
use Rattle.std.specs.Prelude.{All}
use Rattle.sy_text_items.specs.Items.{listed}
use Rattle.sy_forms_items.specs.Views.{items_in}
use Rattle.sy_proof.specs.Lists.{each_in}
use Rattle.sy_proof.specs.Nodes.{node_in, NodeIsLowest}
use Rattle.sy_proof.proofs.Lists.{Onward}
use Rattle.sy_proof.proofs.nodes.read_nodes.Given as goal

abbrev pub invariant-loop-item : goal.invariant-loop-item
invariant-loop-item l = record {
  onward : Onward l.nodes.items (each_in node_in (items_in l.left)) (each_in node_in (items_in l.fn.items));
  lowest : All NodeIsLowest l.nodes.items;
}

abbrev pub decreases-loop-item : goal.decreases-loop-item
decreases-loop-item l = length (listed (items_in l.left))
