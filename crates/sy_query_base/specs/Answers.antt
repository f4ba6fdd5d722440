-- What a solver's answers say.
use Rattle.sy_terms.specs.Values.{Val}
use Rattle.sy_terms.specs.Denoted.{vals_of}
use Rattle.sy_query_limits.specs.declared.FailName.{FailName}
use Rattle.sy_query_limits.specs.declared.Limits.{Limits}
use Rattle.sy_query_base.specs.Asked.{Query, Satisfies}
use Rattle.sy_query_base.specs.declared.verdict.Verdict.{Verdict}
use Rattle.sy_query_base.specs.declared.verdict.Verdict.TheVariants.{Never, Model, Spent}

-- the proof is accepted; the values satisfy the query; what is kept shows that its budget ran out
abbrev pub Answers : {T P S N : Type 0} → (N → Val) → (Query → P → Type 0) → (S → FailName) → (Query → Limits → FailName → S → Type 0) → Query → Limits → Verdict T P S N → Type 0
Answers number accepted budget shows query limits (Never proof) = accepted query proof
Answers number accepted budget shows query limits (Model values) = Satisfies query (vals_of number values)
Answers number accepted budget shows query limits (Spent kept) = shows query limits (budget kept) kept
