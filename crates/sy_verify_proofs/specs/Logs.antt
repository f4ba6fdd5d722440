-- Logs in text as proofs for queries over bit vectors, and the clauses of such queries as text.
use Rattle.std.specs.Prelude.{ℕ, ◌≡◌, ◌⊎◌, List, Some, None}
use Rattle.sy_text_items.specs.Items.{Item}
use Rattle.sy_clauses.specs.Clauses.{Refutes}
use Rattle.sy_clauses.specs.declared.Cnf.{Cnf}
use Rattle.sy_clauses.specs.declared.Log.{Log}
use Rattle.sy_query_base.specs.Asked.{Query}
use Rattle.sy_bits_circuit.specs.Clauses.{HasCircuitClauses, Proves}
use Rattle.sy_proof.specs.Clauses.{clauses_text}
use Rattle.sy_proof.specs.Logs.{log_in}

-- the item spells a log that refutes clauses which say what the query says
pub record LogProves (query : Query) (item : Item) : Type 0 where
  pub log : Log
  pub spelled : log_in item ≡ Some log.lines
  pub cnf : Cnf
  pub proves : Proves query cnf log

-- it spells a log that doesn't refute such clauses
pub record IsRefused (query : Query) (item : Item) : Type 0 where
  pub log : Log
  pub spelled : log_in item ≡ Some log.lines
  pub cnf : Cnf
  pub circuit : HasCircuitClauses query cnf
  pub refused : Refutes cnf log → ⊥

-- it spells no log, or such a one
abbrev pub LogFails : Query → Item → Type 0
LogFails query item = (log_in item ≡ None) ⊎ IsRefused query item

-- no number leaves its bits
abbrev pub LogOverflows : Query → Item → ℕ → Type 0
LogOverflows query item node = ⊥

-- the text spells clauses that say what the query says
pub record SpellsClauses (query : Query) (text : List ℕ) : Type 0 where
  pub cnf : Cnf
  pub circuit : HasCircuitClauses query cnf
  pub spelled : text ≡ clauses_text cnf

-- each query has clauses
abbrev pub LacksClauses : Query → Type 0
LacksClauses query = ⊥
