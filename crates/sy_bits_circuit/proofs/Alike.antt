-- Queries that the same values satisfy, and their clauses.
use Rattle.std.specs.Prelude.{ℕ, ◌*◌, ◌≤◌, ◌≡◌, ◌↔◌, refl, true, List, length, Option, Some, None, IfSome, Result, Ok, Err, IfOk}
use Rattle.std.proofs.Common.{subst, ◌∙◌}
use Rattle.sy_terms.specs.Values.{Val}
use Rattle.sy_clauses.specs.declared.Cnf.{Cnf}
use Rattle.sy_gates.specs.Circuits.{lit_value}
use Rattle.sy_gates.specs.Models.{values_of, but_last, ExtendsInOneWay}
use Rattle.sy_query_base.specs.Asked.{Query, Satisfies}
use Rattle.sy_bits_operators.specs.Signals.{total_width}
use Rattle.sy_bits_circuit.specs.Assignments.{assignment}
use Rattle.sy_bits_circuit.specs.Clauses.{Blasted, HasCircuitClauses, query_size}
use Rattle.sy_bits_circuit.specs.Alike.{SpeaksFor}

-- two such queries, one after the other
pub alike_after : (query first other : Query) → ((values : List Val) → Satisfies first values ↔ Satisfies query values) → ((values : List Val) → Satisfies other values ↔ Satisfies first values) → (values : List Val) → Satisfies other values ↔ Satisfies query values
alike_after query first other earlier later values = (λ holds. (earlier values).0 ((later values).0 holds), λ satisfied. (later values).1 ((earlier values).1 satisfied))

-- they say what the query says, where they are as few as its own may be
pub same_clauses : (query other : Query) (cnf : Cnf) → other.variables ≡ query.variables → ((values : List Val) → Satisfies other values ↔ Satisfies query values) →
    cnf.vars ≤ 1000 * query_size query → length cnf.clauses ≤ 1000 * query_size query → HasCircuitClauses other cnf → HasCircuitClauses query cnf
same_clauses query other cnf same alike variables clauses has = record {
  within = has.within;
  one_way = subst (λ sorts. ExtendsInOneWay (total_width sorts) cnf.vars (but_last cnf.clauses)) same has.one_way;
  output = has.output;
  last = has.last;
  says = λ m long model.
      let read : lit_value (values_of m) has.output ≡ true ↔ Satisfies other (assignment query.variables m) =
      subst (λ sorts. lit_value (values_of m) has.output ≡ true ↔ Satisfies other (assignment sorts m)) same (has.says m long model) in
      (λ holds. (alike (assignment query.variables m)).0 (read.0 holds), λ satisfied. read.1 ((alike (assignment query.variables m)).1 satisfied));
  few_variables = variables;
  few_clauses = clauses;
}

-- they speak for their query, where they are as few as one of this size may have
pub speaks : (query : Query) (size : ℕ) (circuit : Blasted) → circuit.variables ≡ query.variables → HasCircuitClauses query circuit.clauses →
    circuit.clauses.vars ≤ 1000 * size → length circuit.clauses.clauses ≤ 1000 * size → SpeaksFor query size circuit
speaks query size circuit same has variables clauses = record {
  says = λ asked sorts alike many. (
    same ∙ sorts,
    same_clauses asked query circuit.clauses sorts alike (subst (λ most. circuit.clauses.vars ≤ 1000 * most) many variables)
        (subst (λ most. length circuit.clauses.clauses ≤ 1000 * most) many clauses) has,
  );
}

-- what speaks for the later query speaks for the earlier one
pub speaks_before : (query other : Query) (size : ℕ) (circuit : Blasted) → other.variables ≡ query.variables → ((values : List Val) → Satisfies other values ↔ Satisfies query values) →
    SpeaksFor other size circuit → SpeaksFor query size circuit
speaks_before query other size circuit same alike speaking = record {
  says = λ asked sorts earlier many. speaking.says asked (same ∙ sorts) (alike_after asked query other earlier alike) many;
}

-- what speaks for a query of this size has its variables and says what it says
pub speaks_here : (query : Query) (size : ℕ) (circuit : Blasted) → size ≡ query_size query → SpeaksFor query size circuit →
    (circuit.variables ≡ query.variables) × HasCircuitClauses query circuit.clauses
speaks_here query size circuit many speaking = speaking.says query refl (λ values. (λ holds. holds, λ holds. holds)) many

-- ---- the same of what a call answers
pub found_before : {E : Type 0} (query other : Query) (size : ℕ) (found : Result (Option Blasted) E) → other.variables ≡ query.variables →
    ((values : List Val) → Satisfies other values ↔ Satisfies query values) →
    IfOk found (λ circuit. IfSome circuit (SpeaksFor other size)) → IfOk found (λ circuit. IfSome circuit (SpeaksFor query size))
found_before query other size (Ok (Some circuit)) same alike speaking = speaks_before query other size circuit same alike speaking
found_before query other size (Ok None) same alike speaking = tt
found_before query other size (Err end) same alike speaking = tt

pub found_variables : {E : Type 0} (query : Query) (size : ℕ) (found : Result (Option Blasted) E) → size ≡ query_size query →
    IfOk found (λ circuit. IfSome circuit (SpeaksFor query size)) → IfOk found (λ circuit. IfSome circuit (λ (blasted : Blasted). blasted.variables ≡ query.variables))
found_variables query size (Ok (Some circuit)) many speaking = (speaks_here query size circuit many speaking).0
found_variables query size (Ok None) many speaking = tt
found_variables query size (Err end) many speaking = tt

pub found_clauses : {E : Type 0} (query : Query) (size : ℕ) (found : Result (Option Blasted) E) → size ≡ query_size query →
    IfOk found (λ circuit. IfSome circuit (SpeaksFor query size)) → IfOk found (λ circuit. IfSome circuit (λ (blasted : Blasted). HasCircuitClauses query blasted.clauses))
found_clauses query size (Ok (Some circuit)) many speaking = (speaks_here query size circuit many speaking).1
found_clauses query size (Ok None) many speaking = tt
found_clauses query size (Err end) many speaking = tt
