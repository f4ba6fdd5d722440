use Rattle.std.proofs.Common.{arith}
use Rattle.sy_linear.proofs.Judged.{split_size, branch_size, cut_size, farkas_size, shown_size, unfinished_size}
use Rattle.sy_linear.proofs.size.+count_nodes.Goals as goal
use Rattle.sy_linear.proofs.size.+count_nodes.Goals.{in-Split, in-Branch, in-Cut, in-Farkas, in-Shown, in-Unfinished}

pub returns : goal.returns
returns t c = elim c.match-tree.branch [
  | in-Split w ↦ grind (arith, split_size c.args.tree.now w.in-Split.field-0 w.in-Split.field-1 w.in-Split.left w.in-Split.right w.deref.result.now w.deref-in-Split.result.now w.in-Split.is w.deref.ensures w.deref-in-Split.ensures)
  | in-Branch w ↦ grind (arith, branch_size c.args.tree.now w.in-Branch.field-0 w.in-Branch.field-1 w.in-Branch.field-2 w.in-Branch.left w.in-Branch.right w.deref-in-Branch.result.now w.deref-in-Branch-2.result.now w.in-Branch.is w.deref-in-Branch.ensures w.deref-in-Branch-2.ensures)
  | in-Cut w ↦ grind (arith, cut_size c.args.tree.now w.in-Cut.field-0 w.in-Cut.field-1 w.in-Cut.field-2 w.in-Cut.inner w.deref-in-Cut.result.now w.in-Cut.is w.deref-in-Cut.ensures)
  | in-Farkas w ↦ grind (arith, farkas_size c.args.tree.now w.in-Farkas.field-0 w.in-Farkas.is)
  | in-Shown w ↦ grind (arith, shown_size c.args.tree.now w.in-Shown.is)
  | in-Unfinished w ↦ grind (arith, unfinished_size c.args.tree.now w.in-Unfinished.is)
]
