-- Values and their bits.
use Rattle.std.specs.Prelude.{ℕ, ◌+◌, ◌-◌, ◌*◌, ◌/◌, ◌%◌, ◌^◌, ◌≤◌, ◌<◌, ◌≡◌, Bool, true, false, cond, eqb, List, [], ◌∷◌, ◌++◌, refl, length, take, drop, map, All}
use Rattle.std.proofs.Common.{arith, ap, sym, ◌∙◌, subst, get_or, zero, suc, add-one, length-append, length-take}
use Rattle.std.proofs.Math.Nat.{pow-succ', pow-le-pow_right, mod-lt, mod-add-div}
use Rattle.std.proofs.Math.Seq.{take-append_seam, drop-append_seam}
use Rattle.std.proofs.lemmas.List.{drop-take}
use Rattle.std.proofs.lemmas.List.Elements.{All-nil, All-cons, All-head, All-tail}
use Rattle.std.proofs.lemmas.Bool.Decides.{nat_tests}
use Rattle.std.proofs.lemmas.Grind.{common_steps}
use Rattle.sy_terms.specs.Values.{Val, Truth, Whole, Bits}
use Rattle.sy_terms.specs.Theories.{sort_of_value, valid}
use Rattle.sy_terms.specs.declared.sort.Sort.{Sort}
use Rattle.sy_terms.specs.declared.sort.Sort.TheVariants as sorts
use Rattle.sy_grammar_base.specs.Solving.{AreValues}
use Rattle.sy_bits_operators.specs.Signals.{has_signals, AllHaveSignals, sort_width, total_width}
use Rattle.sy_bits_circuit.specs.Assignments.{number_of_bits, value_of_bits, assignment}

pub double-pow : (n : ℕ) → 2 ^ (n + 1) ≡ 2 * 2 ^ n
double-pow n = rw (add-one, pow-succ' 2 n) refl

-- one more bit, where those past the end are 0
pub number_of-more : (bits : List Bool) (i : ℕ) → number_of_bits (take (i + 1) bits) ≡ number_of_bits (take i bits) + 2 ^ i * cond (get_or bits i false) 1 0
number_of-more bits i = rw add-one (by bits i)
  where
    by : (bits : List Bool) (i : ℕ) → number_of_bits (take (suc i) bits) ≡ number_of_bits (take i bits) + 2 ^ i * cond (get_or bits i false) 1 0
    by [] zero = omega arith
    by [] (suc i) = omega arith
    by (b ∷ bits) zero = omega arith
    by (b ∷ bits) (suc i) =
        let p : 2 ^ suc i ≡ 2 * 2 ^ i = pow-succ' 2 i in
        rw p (omega (arith, by bits i))

bit-small : (b : Bool) → cond b 1 0 ≤ 1
bit-small true = omega arith
bit-small false = omega arith

number_of-below : (bits : List Bool) → number_of_bits bits < 2 ^ length bits
number_of-below [] = omega arith
number_of-below (b ∷ bits) =
    let p : 2 ^ suc (length bits) ≡ 2 * 2 ^ length bits = pow-succ' 2 (length bits) in
    rw p (omega (arith, bit-small b, number_of-below bits))

grows : (a b : ℕ) → a ≤ b → 2 ^ a ≤ 2 ^ b
grows a b h = pow-le-pow_right (omega arith) h

taken-short : (n : ℕ) (bits : List Bool) → length (take n bits) ≤ n
taken-short n bits = grind (arith, length-take n bits)

pub number-fits : (w : ℕ) (bits : List Bool) → number_of_bits (take w bits) < 2 ^ w
number-fits w bits = omega (arith, number_of-below (take w bits), grows (length (take w bits)) w (taken-short w bits))

-- the bits of a number

bits_of : ℕ → ℕ → List Bool
bits_of zero n = []
bits_of (suc w) n = eqb (n % 2) 1 ∷ bits_of w (n / 2)

bits_of-length : (w n : ℕ) → length (bits_of w n) ≡ w
unfolding bits_of
bits_of-length zero n = refl
bits_of-length (suc w) n = ap suc (bits_of-length w (n / 2))

odd-bit : (r : ℕ) → r < 2 → cond (eqb r 1) 1 0 ≡ r
odd-bit zero h = refl
odd-bit (suc zero) h = refl
odd-bit (suc (suc r)) h = absurd (omega arith)

halves : (n : ℕ) → n % 2 + 2 * (n / 2) ≡ n
halves n = mod-add-div n 2

half-below : (n w : ℕ) → n < 2 ^ suc w → n / 2 < 2 ^ w
half-below n w h =
    let p : 2 ^ suc w ≡ 2 * 2 ^ w = pow-succ' 2 w in
    omega (arith, p, h, halves n)

bits_of-number : (w n : ℕ) → n < 2 ^ w → number_of_bits (bits_of w n) ≡ n
unfolding bits_of
bits_of-number zero n h = omega arith
bits_of-number (suc w) n h =
    let r : n % 2 < 2 = mod-lt n (omega arith) in
    omega (arith, odd-bit (n % 2) r, bits_of-number w (n / 2) (half-below n w h), halves n)

-- the bits of a value

value_bits : Val → List Bool
value_bits (Truth b) = b ∷ []
value_bits (Whole z) = []
value_bits (Bits w n) = bits_of w n

-- a valid value of a sort with signals is what its bits stand for
record Encoded (sort : Sort) (value : Val) : Type 0 where
  pub long : length (value_bits value) ≡ sort_width sort
  pub same : value_of_bits sort (value_bits value) ≡ value

number-below : (w n : ℕ) → valid (Bits w n) ≡ true → n < 2 ^ w
number-below w n h = grind (arith, nat_tests)

encoded : (value : Val) → valid value ≡ true → has_signals (sort_of_value value) ≡ true → Encoded (sort_of_value value) value
unfolding value_bits bits_of
encoded (Truth b) v h = record { long = refl; same = refl }
encoded (Whole z) v h = cc
encoded (Bits w n) v h = record { long = bits_of-length w n; same = ap (Bits w) (bits_of-number w n (number-below w n v)) }

-- the bits of values of some sorts
pub record Written (sorts : List Sort) (values : List Val) : Type 0 where
  pub bits : List Bool
  pub long : length bits ≡ total_width sorts
  pub are : assignment sorts bits ≡ values

taken : (w : ℕ) (xs ys : List Bool) → length xs ≡ w → (take w (xs ++ ys) ≡ xs) × (drop w (xs ++ ys) ≡ ys)
taken w xs ys e =
    (ap (λ n. take n (xs ++ ys)) (sym e) ∙ take-append_seam xs ys, ap (λ n. drop n (xs ++ ys)) (sym e) ∙ drop-append_seam xs ys)

written-sorts : (values : List Val) → All (λ value. valid value ≡ true) values → AllHaveSignals (map sort_of_value values) → Written (map sort_of_value values) values
written-sorts [] valid all = record { bits = []; long = refl; are = refl }
written-sorts (value ∷ values) v all =
    let one = encoded value (All-head (λ value. valid value ≡ true) value values v) (All-head (λ sort. has_signals sort ≡ true) (sort_of_value value) (map sort_of_value values) all) in
    let rest = written-sorts values (All-tail (λ value. valid value ≡ true) value values v) (All-tail (λ sort. has_signals sort ≡ true) (sort_of_value value) (map sort_of_value values) all) in
    let parts = taken (sort_width (sort_of_value value)) (value_bits value) rest.bits one.long in
    record {
      bits = value_bits value ++ rest.bits;
      long = length-append (value_bits value) rest.bits ∙ omega (arith, one.long, rest.long);
      are = ap (λ (xs : List Bool). value_of_bits (sort_of_value value) xs ∷ assignment (map sort_of_value values) (drop (sort_width (sort_of_value value)) (value_bits value ++ rest.bits))) parts.0
          ∙ ap (λ (xs : List Bool). value_of_bits (sort_of_value value) (value_bits value) ∷ assignment (map sort_of_value values) xs) parts.1
          ∙ ap (λ (vs : List Val). value_of_bits (sort_of_value value) (value_bits value) ∷ vs) rest.are
          ∙ ap (λ (x : Val). x ∷ values) one.same;
    }

pub written : (sorts : List Sort) (values : List Val) → AreValues sorts values → AllHaveSignals sorts → Written sorts values
written sorts values are all =
    subst (λ ss. Written ss values) are.sorted (written-sorts values are.valid (subst AllHaveSignals (sym are.sorted) all))

-- what is read are values of the sorts

sized : (w n : ℕ) → has_signals (sorts.Bits w) ≡ true → n < 2 ^ w → valid (Bits w n) ≡ true
sized w n h k = grind (arith, nat_tests)

record IsValueOf (sort : Sort) (value : Val) : Type 0 where
  pub sorted : sort_of_value value ≡ sort
  pub valid : valid value ≡ true

read-one : (sort : Sort) (bits : List Bool) → has_signals sort ≡ true → IsValueOf sort (value_of_bits sort (take (sort_width sort) bits))
read-one sorts.Bool bits h = record { sorted = refl; valid = refl }
read-one sorts.Int bits h = cc
read-one (sorts.Bits w) bits h = record { sorted = refl; valid = sized w (number_of_bits (take w bits)) h (number-fits w bits) }

pub read-values : (sorts : List Sort) (bits : List Bool) → AllHaveSignals sorts → AreValues sorts (assignment sorts bits)
read-values [] bits all = record { sorted = refl; valid = All-nil (λ value. valid value ≡ true) }
read-values (sort ∷ sorts) bits all =
    let one = read-one sort bits (All-head (λ sort. has_signals sort ≡ true) sort sorts all) in
    let rest = read-values sorts (drop (sort_width sort) bits) (All-tail (λ sort. has_signals sort ≡ true) sort sorts all) in
    record {
      sorted = ap (λ (s : Sort). s ∷ map sort_of_value (assignment sorts (drop (sort_width sort) bits))) one.sorted ∙ ap (λ (ss : List Sort). sort ∷ ss) rest.sorted;
      valid = All-cons (λ value. valid value ≡ true) (value_of_bits sort (take (sort_width sort) bits)) (assignment sorts (drop (sort_width sort) bits)) one.valid rest.valid;
    }

-- the values depend on the first bits alone

take-take-less : (w n : ℕ) (bits : List Bool) → w ≤ n → take w (take n bits) ≡ take w bits
take-take-less zero n bits h = refl
take-take-less (suc w) zero bits h = absurd (omega arith)
take-take-less (suc w) (suc n) [] h = refl
take-take-less (suc w) (suc n) (b ∷ bits) h = ap (λ (xs : List Bool). b ∷ xs) (take-take-less w n bits (omega arith))

pub assignment-front : (sorts : List Sort) (n : ℕ) (bits : List Bool) → total_width sorts ≤ n → assignment sorts (take n bits) ≡ assignment sorts bits
assignment-front [] n bits h = refl
assignment-front (sort ∷ sorts) n bits h =
    let w = sort_width sort in
    let split : n ≡ w + (n - w) = omega arith in
    let later : drop w (take n bits) ≡ take (n - w) (drop w bits) = ap (λ k. drop w (take k bits)) split ∙ drop-take w (n - w) bits in
    ap (λ (xs : List Bool). value_of_bits sort xs ∷ assignment sorts (drop w (take n bits))) (take-take-less w n bits (omega arith))
    ∙ ap (λ (xs : List Bool). value_of_bits sort (take w bits) ∷ assignment sorts xs) later
    ∙ ap (λ (vs : List Val). value_of_bits sort (take w bits) ∷ vs) (assignment-front sorts (n - w) (drop w bits) (omega arith))

-- one more sort

drop-drop : (m n : ℕ) (bits : List Bool) → drop n (drop m bits) ≡ drop (m + n) bits
drop-drop zero n bits = let e : n ≡ 0 + n = omega arith in ap (λ k. drop k bits) e
drop-drop (suc m) n [] = grind (arith, common_steps)
drop-drop (suc m) n (b ∷ bits) = let e : suc (m + n) ≡ suc m + n = omega arith in drop-drop m n bits ∙ ap (λ k. drop k (b ∷ bits)) e

pub assignment-last : (ss : List Sort) (sort : Sort) (bits : List Bool) → assignment (ss ++ sort ∷ []) bits ≡ assignment ss bits ++ value_of_bits sort (take (sort_width sort) (drop (total_width ss) bits)) ∷ []
assignment-last [] sort bits = refl
assignment-last (s ∷ ss) sort bits =
    ap (λ (vs : List Val). value_of_bits s (take (sort_width s) bits) ∷ vs)
    (assignment-last ss sort (drop (sort_width s) bits)
    ∙ ap (λ (xs : List Bool). assignment ss (drop (sort_width s) bits) ++ value_of_bits sort (take (sort_width sort) xs) ∷ []) (drop-drop (sort_width s) (total_width ss) bits))

pub total_width-last : (ss : List Sort) (sort : Sort) → total_width (ss ++ sort ∷ []) ≡ total_width ss + sort_width sort
total_width-last [] sort = omega arith
total_width-last (s ∷ ss) sort = omega (arith, total_width-last ss sort)
