-- Values that a pool has, by their sorts, magnitudes and signs.
use Rattle.std.proofs.Common.{◌≡◌, ℕ, ◌+◌, ◌<◌, List, [], ◌∷◌, ◌++◌, map, refl, ap, sym, ◌∙◌, arith, Bool, true, false, pos, negsuc}
use Rattle.std.specs.Prelude.{◌-◌, ◌==◌, ◌&&◌, ◌||◌, cond, nat_le, nat_eq, unsigned_abs}
use Rattle.std.specs.List.{list_any}
use Rattle.std.proofs.lemmas.Bool.{eqb-true}
use Rattle.sy_terms.specs.Values.{Val, Truth, Whole, Bits, same}
use Rattle.sy_terms.specs.Theories.{whole_number}
use Rattle.sy_terms.specs.declared.sort.Sort.{Sort}
use Rattle.sy_terms.specs.declared.sort.Sort.TheVariants as sorts
use Rattle.sy_grammar_base.specs.Trees.{value_magnitude}
use Rattle.sy_grammar_sizes.proofs.PoolMembers.{both_true, same_is, same_again}
use Rattle.sy_grammar_sizes.specs.Constants.{has_sign, is_at, is_one, are_one, are_held}

same_bool : (a b : Bool) → (a ≡ true → b ≡ true) → (b ≡ true → a ≡ true) → a ≡ b
same_bool true true to from = refl
same_bool true false to from = absurd (let h = to refl in cc)
same_bool false true to from = absurd (let h = from refl in cc)
same_bool false false to from = refl

again : (n : ℕ) → (n == n) ≡ true
again n = grind arith

positive_told : (m : ℕ) (v : Val) → is_at sorts.Int m false v ≡ true → Whole (pos m) ≡ v
positive_told m (Truth b) e = absurd cc
positive_told m (Whole (pos n)) e = ap (λ k. Whole (pos k)) (sym (eqb-true n m e))
positive_told m (Whole (negsuc n)) e = absurd cc
positive_told m (Bits w n) e = absurd cc

negative_told : (m : ℕ) (v : Val) → is_at sorts.Int (m + 1) true v ≡ true → Whole (negsuc m) ≡ v
negative_told m (Truth b) e = absurd cc
negative_told m (Whole (pos n)) e = absurd cc
negative_told m (Whole (negsuc n)) e =
    let equal = eqb-true (n + 1) (m + 1) e in
    let one : m ≡ n = omega (arith, equal) in
    ap (λ k. Whole (negsuc k)) one
negative_told m (Bits w n) e = absurd cc

bits_told : (w m : ℕ) (v : Val) → is_at (sorts.Bits w) m false v ≡ true → Bits w m ≡ v
bits_told w m (Truth b) e = absurd cc
bits_told w m (Whole (pos n)) e = absurd cc
bits_told w m (Whole (negsuc n)) e = absurd cc
bits_told w m (Bits u n) e =
    let both = both_true (nat_eq w u && true) (n == m) e in
    let width = eqb-true w u (both_true (nat_eq w u) true both.0).0 in
    let number = eqb-true n m both.1 in
    λ i. Bits (width i) (sym number i)

any_same : {A : Type 0} (f g : A → Bool) (items : List A) → ((x : A) → f x ≡ g x) → list_any f items ≡ list_any g items
any_same f g [] h = refl
any_same f g (x ∷ items) h = let first = h x in let rest = any_same f g items h in λ i. first i || rest i

positive_same : (m : ℕ) (pool : List Val) → list_any (is_at sorts.Int m false) pool ≡ list_any (same (Whole (pos m))) pool
positive_same m pool = any_same (is_at sorts.Int m false) (same (Whole (pos m))) pool (λ v. same_bool (is_at sorts.Int m false v) (same (Whole (pos m)) v)
    (λ e. ap (same (Whole (pos m))) (sym (positive_told m v e)) ∙ same_again (Whole (pos m)))
    (λ e. ap (is_at sorts.Int m false) (sym (same_is (Whole (pos m)) v e)) ∙ again m))

negative_same : (m : ℕ) (pool : List Val) → list_any (is_at sorts.Int (m + 1) true) pool ≡ list_any (same (Whole (negsuc m))) pool
negative_same m pool = any_same (is_at sorts.Int (m + 1) true) (same (Whole (negsuc m))) pool (λ v. same_bool (is_at sorts.Int (m + 1) true v) (same (Whole (negsuc m)) v)
    (λ e. ap (same (Whole (negsuc m))) (sym (negative_told m v e)) ∙ same_again (Whole (negsuc m)))
    (λ e. ap (is_at sorts.Int (m + 1) true) (sym (same_is (Whole (negsuc m)) v e)) ∙ again (m + 1)))

bits_same : (w m : ℕ) (pool : List Val) → list_any (is_at (sorts.Bits w) m false) pool ≡ list_any (same (Bits w m)) pool
bits_same w m pool = any_same (is_at (sorts.Bits w) m false) (same (Bits w m)) pool (λ v. same_bool (is_at (sorts.Bits w) m false v) (same (Bits w m) v)
    (λ e. ap (same (Bits w m)) (sym (bits_told w m v e)) ∙ same_again (Bits w m))
    (λ e. ap (is_at (sorts.Bits w) m false) (sym (same_is (Bits w m) v e)) ∙ (let width = again w in let number = again m in λ i. (width i && true) && number i)))

one_small : (m : ℕ) → 0 < m → nat_le m 1 ≡ nat_eq m 1
one_small m h = grind arith

-- when a constant of a magnitude counts 1
pub negative_one : (m : ℕ) (pool : List Val) → 0 < m → is_one pool (Whole (negsuc (m - 1))) ≡ list_any (is_at sorts.Int m true) pool
negative_one m pool above = let less : m - 1 + 1 ≡ m = omega arith in sym (negative_same (m - 1) pool) ∙ ap (λ k. list_any (is_at sorts.Int k true) pool) less

pub positive_one : (m : ℕ) (pool : List Val) → 0 < m → is_one pool (Whole (pos m)) ≡ (nat_eq m 1 || list_any (is_at sorts.Int m false) pool)
positive_one m pool above = let small = one_small m above in let held = sym (positive_same m pool) in λ i. small i || held i

pub bits_one : (w m : ℕ) (pool : List Val) → 0 < m → is_one pool (Bits w m) ≡ (nat_eq m 1 || list_any (is_at (sorts.Bits w) m false) pool)
bits_one w m pool above = let small = one_small m above in let held = sym (bits_same w m pool) in λ i. small i || held i

-- the same by magnitudes that are held
pub held_one : (sort : Sort) (m : ℕ) (pool : List Val) (positive negative : ℕ → Bool) → ((k : ℕ) → positive k ≡ list_any (is_at sort k false) pool) → ((k : ℕ) → negative k ≡ list_any (is_at sort k true) pool) → 0 < m →
    are_held positive negative sort m ≡ are_one pool sort m
held_one sorts.Bool m pool positive negative p n above = refl
held_one sorts.Int m pool positive negative p n above =
    let one = n m ∙ sym (negative_one m pool above) in
    let other = ap (λ b. nat_eq m 1 || b) (p m) ∙ sym (positive_one m pool above) in
    λ i. one i && other i
held_one (sorts.Bits w) m pool positive negative p n above = ap (λ b. nat_eq m 1 || b) (p m) ∙ sym (bits_one w m pool above)

-- a number's magnitude
pub magnitude_abs : (v : Val) → unsigned_abs (whole_number v) ≡ value_magnitude v
magnitude_abs (Truth b) = refl
magnitude_abs (Whole (pos n)) = refl
magnitude_abs (Whole (negsuc n)) = omega arith
magnitude_abs (Bits w n) = refl

or_false : (b : Bool) → (b || false) ≡ b
or_false true = refl
or_false false = refl

or_or : (a b c : Bool) → (a || (b || c)) ≡ ((a || b) || c)
or_or true b c = refl
or_or false b c = refl

any_last : {A B : Type 0} (test : B → Bool) (view : A → B) (items : List A) (x : A) → list_any test (map view (items ++ x ∷ [])) ≡ (list_any test (map view items) || test (view x))
any_last test view [] x = or_false (test (view x))
any_last test view (y ∷ items) x = ap (λ b. test (view y) || b) (any_last test view items x) ∙ or_or (test (view y)) (list_any test (map view items)) (test (view x))

put : (b x : Bool) → cond b true x ≡ (x || b)
put true true = refl
put true false = refl
put false true = refl
put false false = refl

-- a value of the sort and sign is put in
pub held_more : {A : Type 0} (view : A → Val) (items : List A) (x : A) (sort : Sort) (negative : Bool) (k q : ℕ) (old new : Bool) → has_sign sort negative (view x) ≡ true → k ≡ value_magnitude (view x) →
    old ≡ list_any (is_at sort q negative) (map view items) → new ≡ cond (k == q) true old → new ≡ list_any (is_at sort q negative) (map view (items ++ x ∷ []))
held_more view items x sort negative k q old new signed is before after =
    let here = ap (λ n. n == q) is ∙ ap (λ b. b && (value_magnitude (view x) == q)) (sym signed) in
    after ∙ put (k == q) old ∙ (λ i. before i || here i) ∙ sym (any_last (is_at sort q negative) view items x)

-- another value changes nothing
pub held_kept : {A : Type 0} (view : A → Val) (items : List A) (x : A) (sort : Sort) (negative : Bool) (q : ℕ) (old : Bool) → has_sign sort negative (view x) ≡ false →
    old ≡ list_any (is_at sort q negative) (map view items) → old ≡ list_any (is_at sort q negative) (map view (items ++ x ∷ []))
held_kept view items x sort negative q old signed before =
    let here = ap (λ b. b && (value_magnitude (view x) == q)) (sym signed) in
    before ∙ sym (or_false (list_any (is_at sort q negative) (map view items))) ∙ ap (λ b. list_any (is_at sort q negative) (map view items) || b) here ∙ sym (any_last (is_at sort q negative) view items x)
