-- Which proofs are accepted, and what shows that a budget was met.
use Rattle.sy_query_limits.specs.declared.FailName.{FailName}
use Rattle.sy_query_limits.specs.declared.Limits.{Limits}
use Rattle.sy_query_base.specs.Asked as asked
pub use Rattle.sy_linear.specs.Accepted.{linear_of, Accepted}
use Rattle.sy_intsolve_cuts.specs.declared.spent.IntSpent.{IntSpent}
use Rattle.sy_intsolve_cuts.specs.Budgets.{Shows}

-- what is left shows that the budget of this name was met, for the query that this one is lowered to
abbrev pub ShowsFor : asked.Query → Limits → FailName → IntSpent → Type 0
ShowsFor query limits name spent = Shows (linear_of query) limits name spent
