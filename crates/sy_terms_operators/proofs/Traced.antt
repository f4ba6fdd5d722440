-- What a trace has, and what it gains.
use Rattle.std.specs.Prelude.{ℕ, ◌+◌, ◌<◌, Bool, true, false, cond, ◌&&◌, ◌||◌, ◌==◌, nat_eq, List, [], ◌∷◌, ◌++◌, ◌≡◌, refl, take, length, zero, suc, slice_get, Some, IsTrue, ◌↔◌}
use Rattle.std.proofs.Common.{ap, sym, ◌∙◌, subst, arith, get_or}
use Rattle.std.proofs.lemmas.Bool.{eqb-true}
use Rattle.std.specs.Option.{option_map}
use Rattle.std.proofs.lemmas.List.{take_more, map_push}
use Rattle.std.proofs.lemmas.Option.{none-some, slice_get-map, slice_get-get_or}
use Rattle.std.proofs.lemmas.Bool.Decides.{Decides-int_eq}
use mathlib.Core.Bool.{true≢false}
use Rattle.sy_terms.specs.Values.{Val, Truth, Whole, Bits, same}
use Rattle.sy_terms.specs.Denoted.{vals_of}
use Rattle.sy_terms.specs.declared.sort.Value.{Value}
use Rattle.sy_terms_operators.specs.Tracing.{same_values, has_call, traced_all, TracedSome, call_of, calls_of}
use Rattle.sy_terms_operators.proofs.Equations.{both_true}
use Rattle.sy_terms_operators.proofs.Asked.{traced_all-append}

both_false : (a b : Bool) → (a || b) ≡ false → (a ≡ false) × (b ≡ false)
both_false true b e = cc
both_false false b e = (refl, e)

-- values that compare as the same are the same
pub same_is : (x y : Val) → same x y ≡ true → x ≡ y
same_is (Truth true) (Truth true) e = refl
same_is (Truth false) (Truth false) e = refl
same_is (Truth true) (Truth false) e = cc
same_is (Truth false) (Truth true) e = cc
same_is (Whole a) (Whole b) e = ap Whole ((Decides-int_eq a b).0 e)
same_is (Bits v m) (Bits w n) e =
    let both = both_true (v == w) (m == n) e in
    let first = eqb-true v w both.0 in
    let second = eqb-true m n both.1 in
    λ i. Bits (first i) (second i)
same_is (Truth a) (Whole b) e = cc
same_is (Truth a) (Bits w n) e = cc
same_is (Whole a) (Truth b) e = cc
same_is (Whole a) (Bits w n) e = cc
same_is (Bits v m) (Truth b) e = cc
same_is (Bits v m) (Whole b) e = cc

nat_again : (n : ℕ) → (n == n) ≡ true
nat_again n = grind arith

pub same_again : (x : Val) → same x x ≡ true
same_again (Truth true) = refl
same_again (Truth false) = refl
same_again (Whole a) = (Decides-int_eq a a).1 refl
same_again (Bits w n) = λ i. nat_again w i && nat_again n i

pub same_values_is : (xs ys : List Val) → same_values xs ys ≡ true → xs ≡ ys
same_values_is [] [] e = refl
same_values_is (x ∷ xs) (y ∷ ys) e =
    let both = both_true (same x y) (same_values xs ys) e in
    let first = same_is x y both.0 in
    let rest = same_values_is xs ys both.1 in
    λ i. first i ∷ rest i
same_values_is [] (y ∷ ys) e = cc
same_values_is (x ∷ xs) [] e = cc

pub same_values_again : (xs : List Val) → same_values xs xs ≡ true
same_values_again [] = refl
same_values_again (x ∷ xs) = λ i. same_again x i && same_values_again xs i

pub same_values_found : (xs ys : List Val) → xs ≡ ys → same_values xs ys ≡ true
same_values_found xs ys e = ap (same_values xs) (sym e) ∙ same_values_again xs

-- the first calls of a list, as the first calls of a longer one
first_of : (first second : List (ℕ × List Val)) (count : ℕ) → (k : ℕ) × (take k (first ++ second) ≡ take count first)
first_of [] second zero = (0, refl)
first_of [] second (suc count) = (0, refl)
first_of (call ∷ first) second zero = (0, refl)
first_of (call ∷ first) second (suc count) = let rest = first_of first second count in (suc rest.0, ap (λ calls. call ∷ calls) rest.1)

second_of : (first second : List (ℕ × List Val)) (count : ℕ) → (k : ℕ) × (take k (first ++ second) ≡ first ++ take count second)
second_of [] second count = (count, refl)
second_of (call ∷ first) second count = let rest = second_of first second count in (suc rest.0, ap (λ calls. call ∷ calls) rest.1)

all_of : (calls : List (ℕ × List Val)) → (k : ℕ) × (take k calls ≡ calls)
all_of [] = (0, refl)
all_of (call ∷ calls) = let rest = all_of calls in (suc rest.0, ap (λ more. call ∷ more) rest.1)

pub some-none : (before asked after : List (ℕ × List Val)) → after ≡ before → TracedSome before asked after
some-none before asked after e = record { count = 0; is = e }

pub some-all : (before asked after : List (ℕ × List Val)) → after ≡ traced_all before asked → TracedSome before asked after
some-all before asked after e = let k = all_of asked in record { count = k.0; is = e ∙ ap (traced_all before) (sym k.1) }

pub some-first : (before first second after : List (ℕ × List Val)) → TracedSome before first after → TracedSome before (first ++ second) after
some-first before first second after some = let k = first_of first second some.count in record { count = k.0; is = some.is ∙ ap (traced_all before) (sym k.1) }

pub some-second : (before first second after : List (ℕ × List Val)) → TracedSome (traced_all before first) second after → TracedSome before (first ++ second) after
some-second before first second after some =
    let k = second_of first second some.count in
    record { count = k.0; is = some.is ∙ sym (traced_all-append before first (take some.count second)) ∙ ap (traced_all before) (sym k.1) }

-- scanning a trace for a call
pub has_call-found : (calls : List (ℕ × List Val)) (i : ℕ) (function : ℕ) (values : List Val) → slice_get calls i ≡ Some (function, values) → has_call calls function values ≡ true
has_call-found [] i function values e = absurd (none-some (function, values) e)
has_call-found (call ∷ calls) zero function values e =
    let same : call ≡ (function, values) = cc in
    subst (λ c. has_call (c ∷ calls) function values ≡ true) (sym same) (λ i. (nat_again function i && same_values_again values i) || has_call calls function values)
has_call-found (call ∷ calls) (suc i) function values e = at (nat_eq call.0 function && same_values call.1 values) (has_call-found calls i function values e)
  where
    at : (b : Bool) → has_call calls function values ≡ true → (b || has_call calls function values) ≡ true
    at true h = refl
    at false h = h

pub has_call-more : (calls : List (ℕ × List Val)) (last : ℕ × List Val) (function : ℕ) (values : List Val) → has_call calls function values ≡ false → (nat_eq last.0 function && same_values last.1 values) ≡ false → has_call (calls ++ last ∷ []) function values ≡ false
has_call-more [] last function values e h = ap (λ b. b || false) h
has_call-more (call ∷ calls) last function values e h =
    let both = both_false (nat_eq call.0 function && same_values call.1 values) (has_call calls function values) e in
    λ i. both.0 i || has_call-more calls last function values both.1 h i

-- a test that holds exactly between the same values
pub test_is : (b : Bool) (xs ys : List Val) → IsTrue b ↔ xs ≡ ys → b ≡ same_values xs ys
test_is true xs ys h = sym (same_values_found xs ys (h.0 refl))
test_is false xs ys h = at (same_values xs ys) refl
  where
    at : (c : Bool) → same_values xs ys ≡ c → false ≡ same_values xs ys
    at true e = absurd (true≢false (sym (h.1 (same_values_is xs ys e))))
    at false e = sym e

-- scanning kept calls, from the first on
module _ {N : Type 0} (number : N → Val) (calls : List (ℕ × List (Value N))) (i : ℕ) (call : ℕ × List (Value N)) (within : i < length calls) (is : call ≡ get_or calls i call) (function : ℕ) (values : List Val) where
  pub scan-found : (nat_eq call.0 function && same_values (vals_of number call.1) values) ≡ true → has_call (calls_of number calls) function values ≡ true
  scan-found e =
      let both = both_true (nat_eq call.0 function) (same_values (vals_of number call.1) values) e in
      let same : call_of number call ≡ (function, values) = λ j. (eqb-true call.0 function both.0 j, same_values_is (vals_of number call.1) values both.1 j) in
      has_call-found (calls_of number calls) i function values (slice_get-map (call_of number) calls i ∙ ap (option_map (call_of number)) (slice_get-get_or calls i call within ∙ ap Some (sym is)) ∙ ap Some same)

  pub scan-more : has_call (calls_of number (take i calls)) function values ≡ false → (nat_eq call.0 function && same_values (vals_of number call.1) values) ≡ false → has_call (calls_of number (take (i + 1) calls)) function values ≡ false
  scan-more before e = rw (take_more calls i call within, ← is, map_push (call_of number) (take i calls) call) (has_call-more (calls_of number (take i calls)) (call_of number call) function values before e)
