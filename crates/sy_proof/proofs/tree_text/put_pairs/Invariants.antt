use Rattle.std.proofs.Common.{◌≡◌, ◌++◌, take, drop}
use Rattle.std.specs.Prelude.{All}
use Rattle.sy_proof.specs.Lists.{each_item, spaced}
use Rattle.sy_proof.specs.Nodes.{pair_item, PairFits}
use Rattle.sy_proof.proofs.tree_text.put_pairs.Given as goal

abbrev pub invariant-loop-pair : goal.invariant-loop-pair
invariant-loop-pair l = record {
  text : l.out ++ spaced (each_item pair_item (drop l.pair-index l.pairs)) ≡ l.fn.out ++ spaced (each_item pair_item l.pairs);
  fit : All PairFits (take l.pair-index l.pairs);
}
