use Rattle.std.proofs.Common.{sym, subst}
use Rattle.std.specs.Prelude.{All}
use Rattle.std.proofs.lemmas.List.Elements.{All-push}
use Rattle.sy_text_items.specs.Views.{item_of}
use Rattle.sy_forms_items.specs.Views.{items_in}
use Rattle.sy_proof.specs.Lists.{each_in}
use Rattle.sy_proof.specs.Nodes.{node_in, NodeIsLowest}
use Rattle.sy_proof.proofs.Lists.{finds_missing, onward_step}
use Rattle.sy_proof.proofs.nodes.read_nodes.Goals as goal

pub returns-in_default-2 : goal.returns-in_default-2
returns-in_default-2 c =
    finds_missing NodeIsLowest node_in c.loop-item.nodes.items (items_in c.loop-item.left) (items_in c.in-Some.rest) (each_in node_in (items_in c.args.items)) (item_of c.in-Some.item.now) c.in-Some.ensures (rw c.in_default-2.is at c.in_ok-node.ensures)
    c.loop-item.invariant.onward

pub loop-item-preserved : goal.loop-item-preserved
loop-item-preserved c =
    let found = rw c.in-Some-2.is at c.in_ok-node.ensures in
    record {
      onward = onward_step node_in c.loop-item.nodes.items c.push.new.self.items (items_in c.loop-item.left) (items_in c.in-Some.rest) (each_in node_in (items_in c.args.items)) (item_of c.in-Some.item.now) c.in-Some-2.node c.in-Some.ensures
          (sym found.0) c.in_ok-push.ensures.items c.loop-item.invariant.onward;
      lowest = subst (All NodeIsLowest) (sym c.in_ok-push.ensures.items) (All-push NodeIsLowest c.loop-item.nodes.items c.in-Some-2.node c.loop-item.invariant.lowest found.1);
    }
