use Rattle.sy_simplex.proofs.FullRows.{IsFilled}
use Rattle.sy_simplex.proofs.initial.full_row.Given as goal

abbrev pub invariant-loop-variable : goal.invariant-loop-variable
invariant-loop-variable l = IsFilled l.vars l.form.coefs l.variable-index l.row.items
