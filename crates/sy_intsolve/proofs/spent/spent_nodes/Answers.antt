use Rattle.sy_intsolve.proofs.Ends.{spent-nodes}
use Rattle.sy_intsolve.proofs.spent.spent_nodes.Goals as goal

pub returns : goal.returns
returns c order query limits before way all = spent-nodes order query limits c.args.way c.in_ok-tree.tree way all c.in_ok-tree.ensures
