use Rattle.std.proofs.Common.{map, take}
use Rattle.sy_terms.specs.Denoted.{val_of}
use Rattle.sy_grammar_sizes.proofs.LeafTables.{IsLeafTable}
use Rattle.sy_grammar_sizes.proofs.leaves.leaf_table.Given as goal

abbrev pub invariant-loop-item : goal.invariant-loop-item
invariant-loop-item g l = IsLeafTable g.T.Theory.denotes l.g.args (map (val_of g.T.Theory.denotes) l.pool) l.limit (take l.item-index l.item-items) l.table.items
