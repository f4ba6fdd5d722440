use Rattle.std.proofs.Common.{◌≡◌, take, map}
use Rattle.sy_terms.specs.Denoted.{vals_of}
use Rattle.sy_bank_level.specs.Columns.{column}
use Rattle.sy_bank_columns.specs.Lent.{row_values}
use Rattle.sy_bank_columns.proofs.apply.fill.Given as goal

abbrev pub invariant-loop-row : goal.invariant-loop-row
invariant-loop-row g l = vals_of g.T.Theory.denotes l.values.items ≡ column (map (λ row. vals_of g.T.Theory.denotes (row_values row)) (take l.row-index l.rows)) l.number
