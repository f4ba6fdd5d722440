use Rattle.std.proofs.Common.{◌≡◌, take}
use Rattle.sy_loop_goods.specs.Columns.{row_from}
use Rattle.sy_loop_goods.proofs.rows.row_of.Given as goal

abbrev pub invariant-loop-column : goal.invariant-loop-column
invariant-loop-column l = l.row ≡ row_from (take l.column-index l.columns) l.place
