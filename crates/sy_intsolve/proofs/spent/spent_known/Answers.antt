use Rattle.sy_intsolve.proofs.Ends.{spent-known}
use Rattle.sy_intsolve.proofs.spent.spent_known.Goals as goal

pub returns : goal.returns
returns c order query limits before way within misfit = spent-known order query limits c.args.way c.in_ok-tree.tree c.in_ok-tree.path c.args.node way within c.in_ok-tree.ensures.tree c.in_ok-tree.ensures.path misfit
