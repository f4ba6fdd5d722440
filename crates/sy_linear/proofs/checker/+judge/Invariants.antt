use Rattle.std.proofs.Common.{◌+◌, ◌*◌}
use Rattle.sy_linear_known.specs.Stored.{tree_shape_of}
use Rattle.sy_linear.specs.Judging.{size}
use Rattle.sy_linear.proofs.checker.+judge.Given as goal

abbrev pub decreases-judge : goal.decreases-judge
decreases-judge l = 3 * size (tree_shape_of l.tree.now)

abbrev pub decreases-judge_side : goal.decreases-judge_side
decreases-judge_side l = 3 * size (tree_shape_of l.tree.now) + 1

abbrev pub decreases-judge_both : goal.decreases-judge_both
decreases-judge_both l = 3 * (size (tree_shape_of l.left.now) + size (tree_shape_of l.right.now)) + 2
