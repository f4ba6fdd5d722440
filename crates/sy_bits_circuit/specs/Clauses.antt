-- Clauses that say what a query says.
use Rattle.std.specs.Prelude.{ℕ, ◌+◌, ◌*◌, ◌^◌, ◌≤◌, ◌<◌, ◌≡◌, ◌↔◌, Bool, true, List, [], ◌∷◌, ◌++◌, length}
use Rattle.sy_clauses.specs.declared.Lit.{Lit}
use Rattle.sy_clauses.specs.declared.Cnf.{Cnf}
use Rattle.sy_clauses.specs.declared.Log.{Log}
use Rattle.sy_clauses.specs.Clauses.{IsModel, Refutes, VarsFit}
use Rattle.sy_clauses.specs.New.{LearnsNew}
use Rattle.sy_gates.specs.Circuits.{lit_value}
use Rattle.sy_gates.specs.Models.{values_of, but_last, ExtendsInOneWay}
use Rattle.sy_query_base.specs.Asked.{Query, Satisfies, query_weight}
use Rattle.sy_terms.specs.declared.sort.Sort.{Sort}
use Rattle.sy_meaning_words.specs.Vectors.{owned}
use Rattle.sy_bits_operators.specs.Signals.{total_width}
use Rattle.sy_bits_circuit.specs.Assignments.{assignment}

-- a query's weight and the widths of its variables
abbrev pub query_size : Query → ℕ
query_size query = query_weight owned query + total_width query.variables

-- Each variable in the clauses is one of theirs. The first variables are the bits of the query's variables. However these are chosen, there is one choice of the other
-- variables, and no second one, at which each clause before the last is true. The last clause has one literal, which is
-- true there exactly where the bits' assignment satisfies the query. There are few variables and clauses.
pub record HasCircuitClauses (query : Query) (cnf : Cnf) : Type 0 where
  pub within : VarsFit cnf
  pub one_way : ExtendsInOneWay (total_width query.variables) cnf.vars (but_last cnf.clauses)
  pub output : Lit
  pub last : cnf.clauses ≡ but_last cnf.clauses ++ (output ∷ []) ∷ []
  pub says : (m : List Bool) → length m ≡ cnf.vars → IsModel (values_of m) (but_last cnf.clauses) →
      lit_value (values_of m) output ≡ true ↔ Satisfies query (assignment query.variables m)
  pub few_variables : cnf.vars ≤ 1000 * query_size query
  pub few_clauses : length cnf.clauses ≤ 1000 * query_size query

-- clauses, and the sorts of the values that their first variables stand for
pub record Blasted : Type 0 where
  pub variables : List Sort
  pub clauses : Cnf

-- the log refutes the clauses, which say what the query says
pub record Proves (query : Query) (cnf : Cnf) (log : Log) : Type 0 where
  pub circuit : HasCircuitClauses query cnf
  pub refuted : Refutes cnf log

-- As many learned clauses, of which each is new to those before it: fewer than there are sets of literals. The clauses say
-- what the query says.
pub record ClausesAreSpent (query : Query) (fuel : ℕ) (cnf : Cnf) (log : Log) : Type 0 where
  pub circuit : HasCircuitClauses query cnf
  pub learned : LearnsNew cnf log
  pub many : length log.lines ≡ fuel
  pub few : fuel < 3 ^ cnf.vars
