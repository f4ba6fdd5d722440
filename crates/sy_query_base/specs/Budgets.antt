-- The budgets of a solver.
use Rattle.std.specs.Prelude.{Bool, true, false}
use Rattle.sy_query_limits.specs.declared.FailName.{FailName}
use Rattle.sy_query_limits.specs.declared.FailName.TheVariants as names

-- the names of what can end a solver's work on one query
abbrev pub is_solver_budget : FailName → Bool
is_solver_budget names.Clauses = true
is_solver_budget names.Nodes = true
is_solver_budget names.Pivots = true
is_solver_budget names.Range = true
is_solver_budget _ = false
