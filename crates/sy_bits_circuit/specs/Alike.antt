-- Circuits of queries that the same values satisfy.
use Rattle.std.specs.Prelude.{ℕ, ◌≡◌, ◌↔◌, List}
use Rattle.sy_terms.specs.Values.{Val}
use Rattle.sy_query_base.specs.Asked.{Query, Satisfies}
use Rattle.sy_bits_circuit.specs.Clauses.{Blasted, HasCircuitClauses, query_size}

-- the circuit's clauses say what each query of this size says that has the same variables and that the same values satisfy
pub record SpeaksFor (query : Query) (size : ℕ) (circuit : Blasted) : Type 0 where
  pub says : (asked : Query) → query.variables ≡ asked.variables → ((values : List Val) → Satisfies query values ↔ Satisfies asked values) →
      size ≡ query_size asked → (circuit.variables ≡ asked.variables) × HasCircuitClauses asked circuit.clauses
