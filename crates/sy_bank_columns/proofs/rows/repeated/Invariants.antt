use Rattle.std.proofs.Common.{◌≡◌, replicate}
use Rattle.sy_bank_columns.proofs.rows.repeated.Given as goal

abbrev pub invariant-loop : goal.invariant-loop
invariant-loop g l = l.row.items ≡ replicate l.counter l.value
