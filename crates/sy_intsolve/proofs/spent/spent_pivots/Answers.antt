use Rattle.sy_intsolve.proofs.Ends.{spent-pivots}
use Rattle.sy_intsolve.proofs.spent.spent_pivots.Goals as goal

pub returns : goal.returns
returns c order query limits before way within spent = spent-pivots order query limits c.args.way c.in_ok-tree.tree c.in_ok-tree.path c.args.run way within c.in_ok-tree.ensures.tree c.in_ok-tree.ensures.path spent
