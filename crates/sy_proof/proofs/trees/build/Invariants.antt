use Rattle.std.proofs.Common.{◌≡◌, length, [], Some}
use Rattle.sy_proof.specs.Growing.{stacked}
use Rattle.sy_proof.proofs.Parsing.{parsed}
use Rattle.sy_proof.proofs.trees.build.Given as goal

abbrev pub invariant-loop-node : goal.invariant-loop-node
invariant-loop-node l = parsed l.left.items (Some (stacked l.trees.items)) ≡ parsed l.fn.nodes.items (Some [])

abbrev pub decreases-loop-node : goal.decreases-loop-node
decreases-loop-node l = length l.left.items
