use Rattle.std.proofs.Common.{map}
use Rattle.sy_terms.specs.Denoted.{vals_of}
use Rattle.sy_bank_columns.specs.Lent.{row_values}
use Rattle.sy_bank_columns.specs.Found.{IsColumnOf}
use Rattle.sy_bank_columns.proofs.apply.applied_row.Given as goal

abbrev pub invariant-loop-number : goal.invariant-loop-number
invariant-loop-number g l = IsColumnOf l.operator (map (λ row. vals_of g.T.Theory.denotes (row_values row)) l.rows) l.number (vals_of g.T.Theory.denotes l.found.items)
