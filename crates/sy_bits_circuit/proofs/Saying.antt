-- The clauses of a query's circuit say what the query says.
use Rattle.std.specs.Prelude.{ℕ, ◌+◌, ◌*◌, ◌≤◌, ◌<◌, ◌≡◌, ◌↔◌, Bool, true, List, [], ◌∷◌, ◌++◌, length, Some, slice_get}
use Rattle.std.proofs.Common.{arith, ap, sym, ◌∙◌, zero, suc, subst}
use Rattle.sy_terms.specs.Values.{Val, Truth, truth}
use Rattle.sy_terms.specs.Meaning.{meaning}
use Rattle.sy_terms.specs.declared.sort.Sort.TheVariants as sorts
use Rattle.sy_grammar_base.specs.Solving.{AreValues}
use Rattle.sy_clauses.specs.declared.Lit.{Lit}
use Rattle.sy_clauses.specs.declared.Cnf.{Cnf}
use Rattle.sy_clauses.specs.Clauses.{IsModel}
use Rattle.sy_gates.specs.declared.gate.Bit.{Bit}
use Rattle.sy_gates.specs.Circuits.{Plan, variables, FollowsPlan, GrownCircuit, lit_value, bit_value, lit_bound, clause_bound, clauses_bound}
use Rattle.sy_gates.specs.Models.{values_of, but_last, ExtendsInOneWay}
use Rattle.sy_query_base.specs.Asked.{Query, QueryFits, Satisfies}
use Rattle.sy_meaning_words.specs.Vectors.{owned, is_bits}
use Rattle.sy_bits_operators.specs.declared.signal.Signal.{Signal}
use Rattle.sy_bits_operators.specs.declared.signal.Signal.TheVariants as signals
use Rattle.sy_bits_operators.specs.Signals.{signal_value, signal_sort, total_width}
use Rattle.sy_bits_circuit.specs.Assignments.{assignment}
use Rattle.sy_bits_circuit.specs.Clauses.{HasCircuitClauses}
use Rattle.sy_bits_circuit.proofs.Laws.{variables-have}
use Rattle.sy_bits_circuit.proofs.TermsReading.{read-values}
use Rattle.sy_bits_circuit.specs.Bodies.{IsBodyOf}

some-same : {X : Type 0} (x y : X) → Some x ≡ Some y → x ≡ y
some-same x y e = cc

-- the signal of a query's body is a truth value

is-true : (v : ℕ → Bool) (signal : Signal) (t : Bool) → signal_sort signal ≡ sorts.Bool → t ≡ truth (signal_value v signal) → signal_value v signal ≡ Truth t
is-true v (signals.Truth bit) t s e = ap Truth (sym e)
is-true v (signals.Vector word) t s e = cc

truth-same : (s t : Bool) → Truth s ≡ Truth t → s ≡ t
truth-same s t e = cc

-- it is true exactly where the values satisfy the query
says : (query : Query) (v : ℕ → Bool) (values : List Val) (signal : Signal) (t : Bool) → signal_sort signal ≡ sorts.Bool → t ≡ truth (signal_value v signal) → signal_value v signal ≡ meaning [] [] values query.body → AreValues query.variables values → (t ≡ true) ↔ Satisfies query values
says query v values signal t bool is value are =
    let meant : meaning [] [] values query.body ≡ Truth t = sym value ∙ is-true v signal t bool is in (
      λ e. record { sorted = are; true = meant ∙ ap Truth e },
      λ s. truth-same t true (sym meant ∙ s.true),
    )

-- variables of clauses below a number

literal-below : (c : List Lit) (k : ℕ) (l : Lit) → slice_get c k ≡ Some l → lit_bound l ≤ clause_bound c
literal-below [] k l e = cc
literal-below (x ∷ c) zero l e = let same : x ≡ l = some-same x l e in rw (← same) (omega arith)
literal-below (x ∷ c) (suc k) l e = omega (arith, literal-below c k l e)

clause-below : (cs : List (List Lit)) (n : ℕ) (c : List Lit) → slice_get cs n ≡ Some c → clause_bound c ≤ clauses_bound cs
clause-below [] n c e = cc
clause-below (x ∷ cs) zero c e = let same : x ≡ c = some-same x c e in rw (← same) (omega arith)
clause-below (x ∷ cs) (suc n) c e = omega (arith, clause-below cs n c e)

pub below : (cs : List (List Lit)) (vars : ℕ) → clauses_bound cs ≤ vars → (n : ℕ) (c : List Lit) (k : ℕ) (l : Lit) → slice_get cs n ≡ Some c → slice_get c k ≡ Some l → l.var < vars
below cs vars h n c k l e f = omega (arith, h, clause-below cs n c e, literal-below c k l f)

-- the clauses of a circuit of the body, with the output that the signal gives
pub circuit-clauses : (query : Query) (circuit whole : Plan) (signal : Signal) (bit : Bit) (output : Lit) (cnf : Cnf) →
    QueryFits owned is_bits query → IsBodyOf query circuit signal →
    ((v : ℕ → Bool) → bit_value v bit ≡ truth (signal_value v signal)) →
    GrownCircuit circuit whole → variables whole ≤ variables circuit + 1 →
    ((v : ℕ → Bool) → FollowsPlan v whole → lit_value v output ≡ bit_value v bit) →
    cnf.vars ≡ variables whole → clauses_bound cnf.clauses ≤ cnf.vars → cnf.clauses ≡ but_last cnf.clauses ++ (output ∷ []) ∷ [] →
    ((v : ℕ → Bool) → IsModel v (but_last cnf.clauses) ↔ FollowsPlan v whole) →
    ExtendsInOneWay whole.inputs cnf.vars (but_last cnf.clauses) → length cnf.clauses ≤ 4 * length whole.gates + 1 →
    HasCircuitClauses query cnf
circuit-clauses query circuit whole signal bit output cnf fits body is grown cost value vars bound last models ways count =
    let inputs : whole.inputs ≡ total_width query.variables = grown.same_inputs ∙ body.inputs in
    let few = body.few in record {
      within = below cnf.clauses cnf.vars bound;
      one_way = subst (λ n. ExtendsInOneWay n cnf.vars (but_last cnf.clauses)) inputs ways;
      output = output;
      last = last;
      says = λ m long model.
          let follows : FollowsPlan (values_of m) whole = (models (values_of m)).0 model in
          says query (values_of m) (assignment query.variables m) signal (lit_value (values_of m) output)
          body.sort (value (values_of m) follows ∙ is (values_of m)) (body.value m (grown.keeps (values_of m) follows))
          (read-values query.variables m (variables-have query fits));
      few_variables = omega (arith, few, cost, vars);
      few_clauses = omega (arith, few, cost, inputs, count);
    }
