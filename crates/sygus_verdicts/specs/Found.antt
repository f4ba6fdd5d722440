-- The verdict on what is found of definitions.
use Rattle.sy_terms.specs.Values.{Val}
use Rattle.sy_terms.specs.Denoted.{vals_of}
use Rattle.sy_query_limits.specs.declared.FailName.{FailName}
use Rattle.sy_query_limits.specs.declared.FailName.TheVariants.{Weight}
use Rattle.sy_verify.specs.declared.checked.Checked.{Checked}
use Rattle.sy_verify.specs.declared.checked.Checked.TheVariants as found
use Rattle.sygus_verdicts.specs.Verdicts as verdicts

-- a solver's budget has its name, and that of a query's weight its own
abbrev pub verdict_found : {T P S N : Type 0} → (N → Val) → (S → FailName) → Checked T P S N → verdicts.Verdict
verdict_found number budget (found.Holds proof) = verdicts.Holds
verdict_found number budget (found.NotMember function) = verdicts.NotMember function
verdict_found number budget found.Heavy = verdicts.Budget Weight
verdict_found number budget (found.Refuted values) = verdicts.Refuted (vals_of number values)
verdict_found number budget (found.Spent spent) = verdicts.Budget (budget spent)
