-- The values that bits stand for, as they are read.
use Rattle.std.specs.Prelude.{ℕ, ◌+◌, ◌*◌, ◌%◌, ◌^◌, ◌≤◌, ◌<◌, ◌≡◌, Bool, true, false, List, [], ◌∷◌, ◌++◌, length, take, drop}
use Rattle.std.proofs.Common.{arith, ap, sym, ◌∙◌, get_or, append_assoc, subst}
use Rattle.std.proofs.lemmas.Bool.Decides.{nat_tests}
use Rattle.std.proofs.lemmas.Grind.{common_steps}
use Rattle.std.proofs.Math.Nat.{pow-le-pow_right, mod-eq_of_lt}
use Rattle.std.proofs.lemmas.List.{map-append}
use Rattle.sy_terms.specs.Values.{Val, Bits}
use Rattle.sy_terms.specs.Theories.{valid}
use Rattle.sy_terms.specs.Denoted.{val_of, vals_of}
use Rattle.sy_terms.specs.declared.sort.Sort.{Sort}
use Rattle.sy_terms.specs.declared.sort.Sort.TheVariants as sorts
use Rattle.sy_terms.specs.declared.sort.Value.{Value}
use Rattle.sy_meaning_words.specs.declared.word.Word.{Word}
use Rattle.sy_meaning_words.specs.Vectors.{vector}
use Rattle.sy_clauses.specs.declared.Cnf.{Cnf}
use Rattle.sy_clauses.specs.Clauses.{IsModel}
use Rattle.sy_gates.specs.Models.{values_of}
use Rattle.sy_query_base.specs.Asked.{Query, Satisfies}
use Rattle.sy_bits_operators.specs.Signals.{has_signals, sort_width}
use Rattle.sy_bits_circuit.specs.Assignments.{number_of_bits, value_of_bits, assignment}
use Rattle.sy_bits_circuit.specs.Clauses.{HasCircuitClauses}
use Rattle.sy_bits_circuit.proofs.Laws.{reads}
use Rattle.sy_bits_circuit.proofs.TermsReading.{number_of-more, number-fits}

-- so many bits make a number of 64
pub below-64 : (bits : List Bool) (i : ℕ) → i ≤ 64 → number_of_bits (take i bits) < 2 ^ 64
below-64 bits i h =
    let p : 2 ^ i ≤ 2 ^ 64 = pow-le-pow_right (omega arith) h in
    omega (arith, p, number-fits i bits)

-- one more bit

bit-fits : (i : ℕ) → i < 64 → 2 ^ i % 2 ^ 64 ≡ 2 ^ i
bit-fits i h =
    let up : i ≤ 63 = omega (arith, h) in
    let p : 2 ^ i ≤ 2 ^ 63 = pow-le-pow_right (omega arith) up in
    mod-eq_of_lt (omega (arith, p))

pub with-one : (bits : List Bool) (i n : ℕ) → i < length bits → length bits ≤ 64 → get_or bits i false ≡ true → n ≡ number_of_bits (take i bits) → n + 1 * 2 ^ i % 2 ^ 64 ≡ number_of_bits (take (i + 1) bits)
with-one bits i n h k b e = rw (number_of-more bits i, b, ← e) (omega (arith, bit-fits i (omega arith)))

pub with-zero : (bits : List Bool) (i n : ℕ) → get_or bits i false ≡ false → n ≡ number_of_bits (take i bits) → n ≡ number_of_bits (take (i + 1) bits)
with-zero bits i n b e = rw (number_of-more bits i, b, ← e) (omega arith)

-- so many bits as a vector has are the number of a vector

sized : (w n : ℕ) → has_signals (sorts.Bits w) ≡ true → n < 2 ^ w → valid (Bits w n) ≡ true
sized w n h k = grind (arith, nat_tests)

take-all : (bits : List Bool) (w : ℕ) → length bits ≡ w → take w bits ≡ bits
take-all bits w h = grind (arith, common_steps)

both-ways : (b : Bool) → b ≡ true → b ≡ false → ⊥
both-ways b e f = cc

pub read-valid : (sort : Sort) (w n : ℕ) (bits : List Bool) → sort ≡ sorts.Bits w → has_signals sort ≡ true → length bits ≡ sort_width sort → n ≡ number_of_bits bits → valid (Bits w n) ≡ false → ⊥
read-valid sort w n bits e has long is invalid =
    let has' : has_signals (sorts.Bits w) ≡ true = subst (λ s. has_signals s ≡ true) e has in
    let long' : length bits ≡ w = long ∙ ap sort_width e in
    let fits : n < 2 ^ w = subst (λ k. k < 2 ^ w) (ap number_of_bits (take-all bits w long') ∙ sym is) (number-fits w bits) in
    both-ways (valid (Bits w n)) (sized w n has' fits) invalid

-- the values satisfy a query whose clauses the bits make true
pub read-satisfies : (query : Query) (clauses : Cnf) (variables : List Sort) (m : List Bool) (values : List Val) → values ≡ assignment variables m → length m ≡ clauses.vars → query.variables ≡ variables → HasCircuitClauses query clauses → IsModel (values_of m) clauses.clauses → Satisfies query values
read-satisfies query clauses variables m values e long v has model =
    subst (Satisfies query) (ap (λ ss. assignment ss m) v ∙ sym e) (reads query clauses m has long model)

-- one more value
pub values-more : (values more : List (Value Word)) (value : Value Word) (sort : Sort) (left rest : List Sort) (bits front back : List Bool) (whole : List Val) → more ≡ values ++ value ∷ [] → val_of vector value ≡ value_of_bits sort front → front ≡ take (sort_width sort) bits → back ≡ drop (sort_width sort) bits → left ≡ sort ∷ rest → vals_of vector values ++ assignment left bits ≡ whole → vals_of vector more ++ assignment rest back ≡ whole
values-more values more value sort left rest bits front back whole e v f b l h =
    rw (e, map-append (val_of vector) values (value ∷ []), append_assoc (vals_of vector values) (val_of vector value ∷ []) (assignment rest back), v, f, b)
    (ap (λ ss. vals_of vector values ++ assignment ss bits) (sym l) ∙ h)
