use Rattle.std.proofs.Common.{◌≡◌, take, map}
use Rattle.sy_terms.specs.Denoted.{vals_of}
use Rattle.sy_terms.specs.Meaning.{value_at_position}
use Rattle.sy_bank_columns.proofs.rows.argument_row.Given as goal

abbrev pub invariant-loop-point : goal.invariant-loop-point
invariant-loop-point g l = vals_of g.T.Theory.denotes l.row.items ≡ map (λ point. value_at_position (vals_of g.T.Theory.denotes point) l.position) (take l.point-index l.points)
