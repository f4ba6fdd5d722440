-- The names of causes.
use Rattle.sy_query_limits.specs.declared.FailName.{FailName}
use Rattle.sy_query_limits.specs.declared.FailName.TheVariants as names
use Rattle.sy_loop_spec.specs.declared.outcome.FailCause.{FailCause}
use Rattle.sy_loop_spec.specs.declared.outcome.FailCause.TheVariants.{Size, Rounds, Points, Bank, Weight, Decide, Range}

-- a cause's name, where a solver names its budgets
abbrev pub fail_name_of : {T S N : Type 0} → (S → FailName) → FailCause T S N → FailName
fail_name_of budget Size = names.Size
fail_name_of budget (Rounds stored) = names.Rounds
fail_name_of budget (Points stored function bodies assignment tuples) = names.Points
fail_name_of budget (Bank stored function bank nonterminal next) = names.Bank
fail_name_of budget (Weight stored bodies) = names.Weight
fail_name_of budget (Decide stored bodies spent) = budget spent
fail_name_of budget (Range stored left) = names.Range
