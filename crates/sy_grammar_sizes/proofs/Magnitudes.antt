-- The sizes of constants, by their magnitudes.
use Rattle.std.proofs.Common.{◌≡◌, ℕ, zero, suc, ◌+◌, ◌<◌, ◌≤◌, List, refl, ap, sym, ◌∙◌, arith, Bool, true, false, Some, pos, negsuc, inl, inr}
use Rattle.std.specs.Prelude.{◌-◌, ◌^◌, ◌/◌, ◌&&◌, ◌||◌, ◌⊎◌, not, nat_lt, nat_le, if◌then◌else◌}
use Rattle.std.specs.List.{list_any}
use Rattle.std.proofs.lemmas.Bool.{eqb-true, lt-ltb, ltb-true}
use Rattle.sy_terms.specs.Values.{Val, Truth, Whole, Bits, same}
use Rattle.sy_terms.specs.Sorts.{same_sort}
use Rattle.sy_terms.specs.Theories.{sort_of_value}
use Rattle.sy_terms.specs.declared.sort.Sort.{Sort}
use Rattle.sy_terms.specs.declared.sort.Sort.TheVariants as sorts
use Rattle.sy_grammar_base.specs.Trees.{digits, digits_within, is_small, value_magnitude, constant_size}
use Rattle.sy_grammar_sizes.proofs.BinaryDigits.{one_more}
use Rattle.sy_grammar_sizes.proofs.PoolMembers.{both_true}
use Rattle.sy_grammar_sizes.specs.Constants.{IsConstantOf, IsConstantSize, IsGreatest, is_one, are_one, IsTop}

digits_within_le : (fuel other m n : ℕ) → m ≤ n → n ≤ other → digits_within fuel m ≤ digits_within other n
digits_within_le zero other m n le fits = omega arith
digits_within_le (suc fuel) other zero n le fits = omega arith
digits_within_le (suc fuel) zero (suc m) n le fits = absurd (omega arith)
digits_within_le (suc fuel) (suc other) (suc m) n le fits =
    let first = one_more fuel (suc m) (omega arith) in
    let second = one_more other n (omega arith) in
    let rest = digits_within_le fuel other (suc m / 2) (n / 2) (omega arith) (omega arith) in
    omega (arith, first, second, rest)

digits_le : (m n : ℕ) → m ≤ n → digits m ≤ digits n
digits_le m n le = digits_within_le m n m n le (omega arith)

both_are : (a b : Bool) → a ≡ true → b ≡ true → (a && b) ≡ true
both_are true b e f = f
both_are false b e f = absurd cc

le_true : (m n : ℕ) → nat_le m n ≡ true → m ≤ n
le_true m n e = grind arith

le_is : (m n : ℕ) → m ≤ n → nat_le m n ≡ true
le_is m n h = grind arith

same_sort_is : (s t : Sort) → same_sort s t ≡ true → s ≡ t
same_sort_is sorts.Bool sorts.Bool e = refl
same_sort_is sorts.Bool sorts.Int e = absurd cc
same_sort_is sorts.Bool (sorts.Bits w) e = absurd cc
same_sort_is sorts.Int sorts.Bool e = absurd cc
same_sort_is sorts.Int sorts.Int e = refl
same_sort_is sorts.Int (sorts.Bits w) e = absurd cc
same_sort_is (sorts.Bits v) sorts.Bool e = absurd cc
same_sort_is (sorts.Bits v) sorts.Int e = absurd cc
same_sort_is (sorts.Bits v) (sorts.Bits w) e = ap sorts.Bits (eqb-true v w e)

same_sort_again : (s : Sort) → same_sort s s ≡ true
same_sort_again sorts.Bool = refl
same_sort_again sorts.Int = refl
same_sort_again (sorts.Bits w) = grind arith

-- sizes
size_one : (pool : List Val) (v : Val) → is_one pool v ≡ true → constant_size pool v ≡ 1
size_one pool v e = ap (λ one. if one then 1 else digits (value_magnitude v) + 1) e

size_counted : (pool : List Val) (v : Val) → is_one pool v ≡ false → constant_size pool v ≡ digits (value_magnitude v) + 1
size_counted pool v e = ap (λ one. if one then 1 else digits (value_magnitude v) + 1) e

size_at_most : (pool : List Val) (v : Val) → constant_size pool v ≤ digits (value_magnitude v) + 1
size_at_most pool v = cases (is_one pool v)
  where
    cases : (one : Bool) → (if one then 1 else digits (value_magnitude v) + 1) ≤ digits (value_magnitude v) + 1
    cases true = omega arith
    cases false = omega arith

small_none : (v : Val) → value_magnitude v ≡ 0 → is_small v ≡ true
small_none (Truth b) e = refl
small_none (Whole (pos n)) e = ap (λ m. not false && nat_le m 1) e
small_none (Whole (negsuc n)) e = absurd (omega (arith, e))
small_none (Bits w n) e = ap (λ m. not false && nat_le m 1) e

one_none : (pool : List Val) (v : Val) → value_magnitude v ≡ 0 → is_one pool v ≡ true
one_none pool v e = ap (λ small. small || list_any (same v) pool) (small_none v e)

one_at : (pool : List Val) (sort : Sort) (m : ℕ) → 0 < m → are_one pool sort m ≡ true → (v : Val) → same_sort sort (sort_of_value v) ≡ true → value_magnitude v ≡ m → is_one pool v ≡ true
one_at pool sorts.Bool m above e (Truth b) s is = absurd (omega (arith, is))
one_at pool sorts.Bool m above e (Whole z) s is = absurd cc
one_at pool sorts.Bool m above e (Bits w n) s is = absurd cc
one_at pool sorts.Int m above e (Truth b) s is = absurd cc
one_at pool sorts.Int m above e (Whole (pos n)) s is = ap (λ k. is_one pool (Whole (pos k))) is ∙ (both_true (is_one pool (Whole (negsuc (m - 1)))) (is_one pool (Whole (pos m))) e).1
one_at pool sorts.Int m above e (Whole (negsuc n)) s is =
    let less : n ≡ m - 1 = omega (arith, is) in
    ap (λ k. is_one pool (Whole (negsuc k))) less ∙ (both_true (is_one pool (Whole (negsuc (m - 1)))) (is_one pool (Whole (pos m))) e).0
one_at pool sorts.Int m above e (Bits w n) s is = absurd cc
one_at pool (sorts.Bits u) m above e (Truth b) s is = absurd cc
one_at pool (sorts.Bits u) m above e (Whole z) s is = absurd cc
one_at pool (sorts.Bits u) m above e (Bits w n) s is =
    let width = eqb-true u w s in
    ap (λ k. is_one pool (Bits w k)) is ∙ ap (λ k. is_one pool (Bits k m)) (sym width) ∙ e

-- a constant of the sort with a magnitude
pub record IsAt (sort : Sort) (size : ℕ) (value : Val) : Type 0 where
  pub constant : IsConstantOf sort value
  pub magnitude : value_magnitude value ≡ size

positive_at : (top m : ℕ) → IsTop sorts.Int top → m ≤ top → IsAt sorts.Int m (Whole (pos m))
positive_at top m is le = record { constant = record { sorted = refl; written = lt-ltb m (2 ^ 127) (omega (arith, is)) }; magnitude = refl }

negative_at : (top m : ℕ) → IsTop sorts.Int top → m ≤ top → 0 < m → IsAt sorts.Int m (Whole (negsuc (m - 1)))
negative_at top m is le above = record { constant = record { sorted = refl; written = lt-ltb (m - 1 + 1) (2 ^ 127) (omega (arith, is)) }; magnitude = omega arith }

bits_at : (w top m : ℕ) → IsTop (sorts.Bits w) top → m ≤ top → IsAt (sorts.Bits w) m (Bits w m)
bits_at w top m is le = record {
  constant = record {
    sorted = same_sort_again (sorts.Bits w);
    written = both_are (nat_le 1 w) (nat_le w 64 && nat_lt m (2 ^ w)) (le_is 1 w is.0) (both_are (nat_le w 64) (nat_lt m (2 ^ w)) (le_is w 64 is.1) (lt-ltb m (2 ^ w) (omega (arith, is.2))));
  };
  magnitude = refl;
}

some_at : (pool : List Val) (sort : Sort) (top m : ℕ) → IsTop sort top → 0 < m → m ≤ top → are_one pool sort m ≡ false → (v : Val) × IsAt sort m v × (is_one pool v ≡ false)
some_at pool sorts.Bool top m is above le e = absurd is
some_at pool sorts.Int top m is above le e = cases (is_one pool (Whole (negsuc (m - 1)))) refl
  where
    cases : (b : Bool) → is_one pool (Whole (negsuc (m - 1))) ≡ b → (v : Val) × IsAt sorts.Int m v × (is_one pool v ≡ false)
    cases false f = (Whole (negsuc (m - 1)), negative_at top m is le above, f)
    cases true f = (Whole (pos m), positive_at top m is le, sym (ap (λ b. b && is_one pool (Whole (pos m))) f) ∙ e)
some_at pool (sorts.Bits w) top m is above le e = (Bits w m, bits_at w top m is le, e)

none_at : (sort : Sort) (top : ℕ) → IsTop sort top → (v : Val) × IsAt sort 0 v
none_at sorts.Bool top is = absurd is
none_at sorts.Int top is = (Whole (pos 0), positive_at top 0 is (omega arith))
none_at (sorts.Bits w) top is = (Bits w 0, bits_at w top 0 is (omega arith))

top_bounds : (sort : Sort) (top : ℕ) → IsTop sort top → (v : Val) → IsConstantOf sort v → value_magnitude v ≤ top
top_bounds sorts.Bool top is v constant = absurd is
top_bounds sorts.Int top is (Truth b) constant = omega arith
top_bounds sorts.Int top is (Whole (pos n)) constant = let below = ltb-true n (2 ^ 127) constant.written in omega (arith, below, is)
top_bounds sorts.Int top is (Whole (negsuc n)) constant = let below = ltb-true (n + 1) (2 ^ 127) constant.written in omega (arith, below, is)
top_bounds sorts.Int top is (Bits w n) constant = absurd (let s = constant.sorted in cc)
top_bounds (sorts.Bits u) top is (Truth b) constant = omega arith
top_bounds (sorts.Bits u) top is (Whole z) constant = absurd (let s = constant.sorted in cc)
top_bounds (sorts.Bits u) top is (Bits w n) constant =
    let width = eqb-true u w constant.sorted in
    let inner = both_true (nat_le 1 w) (nat_le w 64 && nat_lt n (2 ^ w)) constant.written in
    let least = both_true (nat_le w 64) (nat_lt n (2 ^ w)) inner.1 in
    let below = ltb-true n (2 ^ w) least.1 in
    let same = ap (λ k. 2 ^ k) width in
    omega (arith, below, same, is.2)

pub greatest_one : (pool : List Val) (sort : Sort) (top : ℕ) → IsTop sort top → ((m : ℕ) → 0 < m → m ≤ top → are_one pool sort m ≡ true) → IsGreatest (IsConstantSize pool sort) (Some 1)
greatest_one pool sort top is all =
    let least = none_at sort top is in (
      (least.0, least.1.constant, size_one pool least.0 (one_none pool least.0 least.1.magnitude)),
      λ size of. let one = size_one pool of.0 (each of.0 of.1 (value_magnitude of.0) refl) in omega (arith, one, of.2),
    )
  where
    each : (v : Val) → IsConstantOf sort v → (m : ℕ) → value_magnitude v ≡ m → is_one pool v ≡ true
    each v constant zero e = one_none pool v e
    each v constant (suc m) e = one_at pool sort (suc m) (omega arith) (all (suc m) (omega arith) (let bound = top_bounds sort top is v constant in omega (arith, bound, e))) v constant.sorted e

pub greatest_counted : (pool : List Val) (sort : Sort) (top n : ℕ) → IsTop sort top → 0 < n → n ≤ top → are_one pool sort n ≡ false → ((m : ℕ) → n < m → m ≤ top → are_one pool sort m ≡ true) →
    IsGreatest (IsConstantSize pool sort) (Some (digits n + 1))
greatest_counted pool sort top n is above le not all =
    let found = some_at pool sort top n is above le not in (
      (found.0, found.1.constant, size_counted pool found.0 found.2 ∙ ap (λ m. digits m + 1) found.1.magnitude),
      λ size of. let bound = each of.0 of.1 (split n (value_magnitude of.0)) in omega (arith, bound, of.2),
    )
  where
    split : (a b : ℕ) → (a < b) ⊎ (b ≤ a)
    split a b = grind arith

    each : (v : Val) → IsConstantOf sort v → (n < value_magnitude v) ⊎ (value_magnitude v ≤ n) → constant_size pool v ≤ digits n + 1
    each v constant (inl more) = let one = size_one pool v (one_at pool sort (value_magnitude v) (omega arith) (all (value_magnitude v) more (top_bounds sort top is v constant)) v constant.sorted refl) in omega (arith, one)
    each v constant (inr less) = let most = size_at_most pool v in let fewer = digits_le (value_magnitude v) n less in omega (arith, most, fewer)

pub greatest_truth : (pool : List Val) → IsGreatest (IsConstantSize pool sorts.Bool) (Some 1)
greatest_truth pool = (
  (Truth true, record { sorted = refl; written = refl }, refl),
  λ size of. each of.0 of.1 size of.2,
)
  where
    each : (v : Val) → IsConstantOf sorts.Bool v → (size : ℕ) → constant_size pool v ≡ size → size ≤ 1
    each (Truth b) constant size e = omega (arith, e)
    each (Whole z) constant size e = absurd (let s = constant.sorted in cc)
    each (Bits w n) constant size e = absurd (let s = constant.sorted in cc)

-- vectors of no allowed width
pub no_vector : (pool : List Val) (w : ℕ) → ((1 ≤ w) → (w ≤ 64) → ⊥) → (size : ℕ) → IsConstantSize pool (sorts.Bits w) size → ⊥
no_vector pool w none size of = each of.0 of.1
  where
    each : (v : Val) → IsConstantOf (sorts.Bits w) v → ⊥
    each (Truth b) constant = let s = constant.sorted in cc
    each (Whole z) constant = let s = constant.sorted in cc
    each (Bits u n) constant =
        let width = eqb-true w u constant.sorted in
        let inner = both_true (nat_le 1 u) (nat_le u 64 && nat_lt n (2 ^ u)) constant.written in
        let least = both_true (nat_le u 64) (nat_lt n (2 ^ u)) inner.1 in
        none (let h = le_true 1 u inner.0 in omega (arith, h, width)) (let h = le_true u 64 least.0 in omega (arith, h, width))

-- one magnitude less, after one at which all count 1
pub ones_more : (pool : List Val) (sort : Sort) (top magnitude next : ℕ) → next + 1 ≡ magnitude → are_one pool sort magnitude ≡ true → ((m : ℕ) → magnitude < m → m ≤ top → are_one pool sort m ≡ true) →
    (m : ℕ) → next < m → m ≤ top → are_one pool sort m ≡ true
ones_more pool sort top magnitude next is one all m above le = elim (order magnitude m (omega (arith, is, above))) [
  | inl more ↦ all m more le
  | inr same ↦ ap (are_one pool sort) (sym same) ∙ one
]
  where
    order : (a b : ℕ) → a ≤ b → (a < b) ⊎ (a ≡ b)
    order a b h = grind arith
