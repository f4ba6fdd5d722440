-- Which proofs are accepted, and what shows that a search learned as many clauses as it may.
use Rattle.sy_query_limits.specs.declared.FailName.{FailName}
use Rattle.sy_query_limits.specs.declared.FailName.TheVariants as names
use Rattle.sy_query_limits.specs.declared.Limits.{Limits}
use Rattle.sy_query_base.specs.Asked.{Query}
use Rattle.sy_bits_circuit.specs.Clauses.{Proves, ClausesAreSpent}
use Rattle.sy_bits.specs.declared.answers.BvProof.{BvProof}
use Rattle.sy_bits.specs.declared.answers.BvSpent.{BvSpent}
use Rattle.sy_bits.specs.declared.answers.BvSpent.TheVariants.{Clauses}

-- the log refutes the clauses, which say what the query says
abbrev pub Accepted : Query → BvProof → Type 0
Accepted query proof = Proves query proof.cnf proof.log

abbrev pub budget : BvSpent → FailName
budget (Clauses cnf log) = names.Clauses

-- as many clauses were learned as the limit, each new to those before it, from clauses that say what the query says
abbrev pub Shows : Query → Limits → FailName → BvSpent → Type 0
Shows query limits names.Clauses (Clauses cnf log) = ClausesAreSpent query limits.clauses cnf log
Shows query limits _ (Clauses cnf log) = ⊥
