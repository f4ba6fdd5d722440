use Rattle.std.proofs.Common.{sym}
use Rattle.sy_terms.specs.Denoted.{expr_of-Const}
use Rattle.sy_loop_trees.proofs.Listed.{past}
use Rattle.sy_loop_trees.proofs.tree.part_term.Goals as goal

pub returns-in-None : goal.returns-in-None
returns-in-None g c = rw (expr_of-Const) (sym (past g.T.Theory.denotes c.args.kept.now c.args.number c.in-None.ensures.lookup.3))
