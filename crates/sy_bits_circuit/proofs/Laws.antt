-- What circuit clauses say: their models are the assignments that satisfy the query.
use Rattle.std.specs.Prelude.{ℕ, ◌+◌, ◌≡◌, Bool, true, false, ◌||◌, List, [], ◌∷◌, ◌++◌, refl, length, take, All}
use Rattle.std.proofs.Common.{arith, ap, sym, ◌∙◌, subst}
use Rattle.std.proofs.lemmas.List.Elements.{All-nil, All-cons, All-head, All-tail, All-append}
use Rattle.sy_terms.specs.Values.{Val, Truth}
use Rattle.sy_terms.specs.Meaning.{meaning}
use Rattle.sy_grammar_base.specs.Solving.{AreValues}
use Rattle.sy_clauses.specs.declared.Lit.{Lit}
use Rattle.sy_clauses.specs.declared.Cnf.{Cnf}
use Rattle.sy_clauses.specs.Clauses.{IsModel, ClauseIsTrueUnder, HasNoModel, literals}
use Rattle.sy_gates.specs.Circuits.{lit_value}
use Rattle.sy_gates.specs.Models.{values_of, but_last}
use Rattle.sy_gates.proofs.Holding.{value-true, true-value}
use Rattle.sy_grammar_base.specs.Formed.{is_known}
use Rattle.sy_query_base.specs.Asked.{Query, QueryFits, Satisfies, IsNever}
use Rattle.sy_terms.specs.declared.sort.Sort.{Sort}
use Rattle.sy_terms.specs.declared.sort.Sort.TheVariants as sorts
use Rattle.sy_meaning_words.specs.Vectors.{owned, is_bits}
use Rattle.sy_bits_operators.specs.Signals.{AllHaveSignals, has_signals, total_width}
use Rattle.sy_bits_circuit.specs.Assignments.{assignment}
use Rattle.sy_bits_circuit.specs.Clauses.{HasCircuitClauses}
use Rattle.sy_bits_circuit.proofs.TermsReading.{written, assignment-front}

-- models of a list of clauses and one more

front : (P : List Lit → Type 0) (cs ds : List (List Lit)) → All P (cs ++ ds) → All P cs
front P [] ds all = All-nil P
front P (c ∷ cs) ds all = All-cons P c cs (All-head P c (cs ++ ds) all) (front P cs ds (All-tail P c (cs ++ ds) all))

back : (P : List Lit → Type 0) (cs ds : List (List Lit)) → All P (cs ++ ds) → All P ds
back P [] ds all = all
back P (c ∷ cs) ds all = back P cs ds (All-tail P c (cs ++ ds) all)

or-nothing : (b : Bool) → (b || false) ≡ b
or-nothing true = refl
or-nothing false = refl

-- a model of all clauses makes the output true
output-true : (v : ℕ → Bool) (l : Lit) → ClauseIsTrueUnder v (literals (l ∷ [])) → lit_value v l ≡ true
output-true v l t = sym (or-nothing (lit_value v l)) ∙ true-value v (l ∷ []) t

true-output : (v : ℕ → Bool) (l : Lit) → lit_value v l ≡ true → ClauseIsTrueUnder v (literals (l ∷ []))
true-output v l e = value-true v (l ∷ []) (or-nothing (lit_value v l) ∙ e)

pub reads : (query : Query) (cnf : Cnf) (m : List Bool) → HasCircuitClauses query cnf → length m ≡ cnf.vars → IsModel (values_of m) cnf.clauses → Satisfies query (assignment query.variables m)
reads query cnf m has long model =
    let split : IsModel (values_of m) (but_last cnf.clauses ++ (has.output ∷ []) ∷ []) = subst (IsModel (values_of m)) has.last model in
    let P : List Lit → Type 0 = λ c. ClauseIsTrueUnder (values_of m) (literals c) in
    let most : IsModel (values_of m) (but_last cnf.clauses) = front P (but_last cnf.clauses) ((has.output ∷ []) ∷ []) split in
    let last = All-head P (has.output ∷ []) [] (back P (but_last cnf.clauses) ((has.output ∷ []) ∷ []) split) in
    (has.says m long most).0 (output-true (values_of m) has.output last)

-- the variables of a query that fits have signals

sort-has : (s : Sort) → is_known is_bits s ≡ true → has_signals s ≡ true
sort-has sorts.Bool h = refl
sort-has sorts.Int h = cc
sort-has (sorts.Bits w) h = h

all-have : (ss : List Sort) → All (λ sort. is_known is_bits sort ≡ true) ss → AllHaveSignals ss
all-have [] all = All-nil (λ sort. has_signals sort ≡ true)
all-have (s ∷ ss) all =
    All-cons (λ sort. has_signals sort ≡ true) s ss (sort-has s (All-head (λ sort. is_known is_bits sort ≡ true) s ss all)) (all-have ss (All-tail (λ sort. is_known is_bits sort ≡ true) s ss all))

pub variables-have : (query : Query) → QueryFits owned is_bits query → AllHaveSignals query.variables
variables-have query fits = all-have query.variables fits.variables

-- clauses without a model: no assignment satisfies the query
pub never : (query : Query) (cnf : Cnf) → QueryFits owned is_bits query → HasCircuitClauses query cnf → HasNoModel cnf → IsNever query
never query cnf fits has none values are holds =
    let all = variables-have query fits in
    let w = written query.variables values are all in
    let extended = has.one_way.some w.bits w.long in
    let m : List Bool = extended.0 in
    let long : length m ≡ cnf.vars = extended.1.0 in
    let begins : take (total_width query.variables) m ≡ w.bits = extended.1.1 in
    let most : IsModel (values_of m) (but_last cnf.clauses) = extended.1.2 in
    let same : assignment query.variables m ≡ values = sym (assignment-front query.variables (total_width query.variables) m (omega arith)) ∙ ap (assignment query.variables) begins ∙ w.are in
    let meant : meaning [] [] (assignment query.variables m) query.body ≡ Truth true = ap (λ (vs : List Val). meaning [] [] vs query.body) same ∙ holds in
    let valued : AreValues query.variables (assignment query.variables m) = subst (AreValues query.variables) (sym same) are in
    let output = (has.says m long most).1 (record { sorted = valued; true = meant }) in
    let P : List Lit → Type 0 = λ c. ClauseIsTrueUnder (values_of m) (literals c) in
    let whole : IsModel (values_of m) (but_last cnf.clauses ++ (has.output ∷ []) ∷ []) =
    All-append P (but_last cnf.clauses) ((has.output ∷ []) ∷ []) most (All-cons P (has.output ∷ []) [] (true-output (values_of m) has.output output) (All-nil P)) in
    none (values_of m) (subst (IsModel (values_of m)) (sym has.last) whole)
