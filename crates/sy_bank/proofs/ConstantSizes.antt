-- The constants of a sort, by their numbers and their sizes.
use Rattle.std.proofs.Common.{◌≡◌, ◌≢◌, ℕ, zero, suc, ◌+◌, ◌<◌, ◌≤◌, List, [], ◌∷◌, refl, ap, sym, ◌∙◌, arith, Bool, true, false, Option, Some, None, slice_get, pos, negsuc, inl, inr, ◌⊎◌, subst}
use Rattle.std.specs.Prelude.{ℤ, ◌-◌, ◌*◌, ◌%◌, ◌^◌, ◌&&◌, ◌||◌, not, nat_lt, nat_le, neg_ℤ, min, if◌then◌else◌}
use Rattle.std.specs.List.{list_any}
use Rattle.std.proofs.lemmas.Bool.{ltb-true, lt-ltb}
use Rattle.std.proofs.Math.Pow.{pow_mono}
use Rattle.sy_terms.specs.Values.{Val, Truth, Whole, Bits, same}
use Rattle.sy_terms.specs.Expr as expr
use Rattle.sy_terms.specs.Sorts.{same_sort}
use Rattle.sy_terms.specs.declared.op.Op.TheVariants as ops
use Rattle.sy_terms.specs.Theories.{sort_of_value, value_at, whole_number, valid}
use Rattle.sy_terms.specs.declared.sort.Sort.{Sort}
use Rattle.sy_terms.specs.declared.sort.Sort.TheVariants as sorts
use Rattle.sy_terms_operators.proofs.Equations.{if_Some, both_true, same_sort_is}
use Rattle.sy_grammar_base.specs.Trees.{constant_size, digits, is_written, is_small, is_negative, literal, value_magnitude}
use Rattle.sy_grammar_sizes.proofs.PoolMembers.{same_is}
use Rattle.sy_grammar_base.specs.Formed.{is_known}
use Rattle.sy_bank.specs.Leaves.{IsGivenConstant, positive_of}
use Rattle.sy_bank.proofs.Digits.{no_digits, some_digits}

-- a value that is given has the sort, and is written
pub record IsOf (sort : Sort) (value : Val) : Type 0 where
  pub sorted : sort ≡ sort_of_value value
  pub written : is_written value ≡ true

pub of-given : (sort : Sort) (value : Val) → IsGivenConstant sort value → IsOf sort value
of-given sort value given =
    let both = both_true (same_sort sort (sort_of_value value)) (is_written value) (if_Some (same_sort sort (sort_of_value value) && is_written value) (literal value) (literal value) given).0 in
    record { sorted = same_sort_is sort (sort_of_value value) both.0; written = both.1 }

same_sort_again : (s : Sort) → same_sort s s ≡ true
same_sort_again sorts.Bool = refl
same_sort_again sorts.Int = refl
same_sort_again (sorts.Bits w) = grind arith

-- a written value is given by the rule for its sort
pub given-of : (sort : Sort) (value : Val) → sort ≡ sort_of_value value → is_written value ≡ true → IsGivenConstant sort value
given-of sort value sorted written =
    let same : same_sort sort (sort_of_value value) ≡ true = subst (λ s. same_sort s (sort_of_value value) ≡ true) (sym sorted) (same_sort_again (sort_of_value value)) in
    ap (λ b. if b then Some (literal value) else None) (ap (λ b. b && is_written value) same ∙ written)

-- a vector's width and number
pub record IsVector (width number : ℕ) : Type 0 where
  pub some : 1 ≤ width
  pub few : width ≤ 64
  pub below : number < 2 ^ width

is-vector : (w n : ℕ) → valid (Bits w n) ≡ true → IsVector w n
is-vector w n e =
    let outer = both_true (nat_le 1 w) (nat_le w 64 && nat_lt n (2 ^ w)) e in
    let inner = both_true (nat_le w 64) (nat_lt n (2 ^ w)) outer.1 in
    record { some = le 1 w outer.0; few = le w 64 inner.0; below = ltb-true n (2 ^ w) inner.1 }
  where
    le : (m n : ℕ) → nat_le m n ≡ true → m ≤ n
    le m n e = grind arith

-- how large magnitudes are
pub below-truths : (value : Val) → IsGivenConstant sorts.Bool value → value_magnitude value < 1
below-truths value given = each value (of-given sorts.Bool value given).sorted
  where
    each : (v : Val) → sorts.Bool ≡ sort_of_value v → value_magnitude v < 1
    each (Truth b) e = omega arith
    each (Whole z) e = absurd cc
    each (Bits w n) e = absurd cc

pub below-vectors : (w : ℕ) (value : Val) → IsGivenConstant (sorts.Bits w) value → value_magnitude value < 2 ^ min w 64
below-vectors w value given = let of = of-given (sorts.Bits w) value given in each value of.sorted of.written
  where
    each : (v : Val) → sorts.Bits w ≡ sort_of_value v → is_written v ≡ true → value_magnitude v < 2 ^ min w 64
    each (Truth b) e written = absurd cc
    each (Whole z) e written = absurd cc
    each (Bits u n) e written =
        let vector = is-vector u n written in
        let width : u ≡ min w 64 = let same : w ≡ u = cc in omega (arith, same, vector.few) in
        subst (λ k. n < 2 ^ k) width vector.below

pub below-all : (sort : Sort) (value : Val) → IsGivenConstant sort value → value_magnitude value < 2 ^ 127
below-all sort value given = each value (of-given sort value given).written
  where
    each : (v : Val) → is_written v ≡ true → value_magnitude v < 2 ^ 127
    each (Truth b) written = omega arith
    each (Whole (pos n)) written = ltb-true n (2 ^ 127) written
    each (Whole (negsuc n)) written = ltb-true (n + 1) (2 ^ 127) written
    each (Bits w n) written =
        let vector = is-vector w n written in
        let small : w ≤ 127 = omega (arith, vector.few) in
        let wide : 2 ^ w ≤ 2 ^ 127 = pow_mono small in
        omega (arith, vector.below, wide)

-- the sort's value that a given number is
pub at-whole : (sort : Sort) (value : Val) → IsGivenConstant sort value → ((b : Bool) × (value ≡ Truth b)) ⊎ (value_at sort (whole_number value) ≡ Some value)
at-whole sort value given = let of = of-given sort value given in each value of.sorted of.written
  where
    each : (v : Val) → sort ≡ sort_of_value v → is_written v ≡ true → ((b : Bool) × (v ≡ Truth b)) ⊎ (value_at sort (whole_number v) ≡ Some v)
    each (Truth b) e written = inl (b, refl)
    each (Whole z) e written = inr (ap (λ s. value_at s z) e)
    each (Bits w n) e written = inr (ap (λ s. value_at s (pos n)) e ∙ ap (λ b. if b then Some (Bits w n) else None) written)

-- a positive magnitude's number, with either sign
pub at-sign : (sort : Sort) (value : Val) (m : ℕ) → IsGivenConstant sort value → value_magnitude value ≡ m → 0 < m → (value_at sort (pos m) ≡ Some value) ⊎ (value_at sort (neg_ℤ (pos m)) ≡ Some value)
at-sign sort value m given is above = elim (at-whole sort value given) [
  | inl truth ↦ absurd (none value truth.0 truth.1 is)
  | inr at ↦ each value at is
]
  where
    none : (v : Val) (b : Bool) → v ≡ Truth b → value_magnitude v ≡ m → ⊥
    none (Truth c) b e same = omega (arith, same, above)
    none (Whole z) b e same = absurd cc
    none (Bits w n) b e same = absurd cc

    each : (v : Val) → value_at sort (whole_number v) ≡ Some v → value_magnitude v ≡ m → (value_at sort (pos m) ≡ Some v) ⊎ (value_at sort (neg_ℤ (pos m)) ≡ Some v)
    each (Truth b) at same = absurd (omega (arith, same, above))
    each (Whole (pos n)) at same = inl (ap (λ k. value_at sort (pos k)) (sym same) ∙ at)
    each (Whole (negsuc n)) at same =
        let signed : neg_ℤ (pos m) ≡ negsuc n = ap (λ k. neg_ℤ (pos k)) (let next : m ≡ suc n = omega (arith, same) in next) in
        inr (ap (value_at sort) signed ∙ at)
    each (Bits w n) at same = inl (ap (λ k. value_at sort (pos k)) (sym same) ∙ at)

-- the term of a negative integer, and of any other value
pub literal-negative : (value positive : Val) → Some positive ≡ positive_of value → literal value ≡ expr.Apply ops.Neg (expr.more (expr.Constant positive) expr.none)
literal-negative (Truth b) positive e = absurd cc
literal-negative (Whole (pos n)) positive e = absurd cc
literal-negative (Whole (negsuc n)) positive e = let same : positive ≡ Whole (pos (n + 1)) = cc in ap (λ v. expr.Apply ops.Neg (expr.more (expr.Constant v) expr.none)) (sym same)
literal-negative (Bits w n) positive e = absurd cc

pub literal-plain : (value : Val) → None ≡ positive_of value → literal value ≡ expr.Constant value
literal-plain (Truth b) e = refl
literal-plain (Whole (pos n)) e = refl
literal-plain (Whole (negsuc n)) e = absurd cc
literal-plain (Bits w n) e = refl

-- sizes
counted : (pool : List Val) (value : Val) (one : Bool) → (is_small value || list_any (same value) pool) ≡ one → constant_size pool value ≡ (if one then 1 else digits (value_magnitude value) + 1)
counted pool value one e = ap (λ b. if b then 1 else digits (value_magnitude value) + 1) e

pub counted-size : (pool : List Val) (value : Val) (size : ℕ) → constant_size pool value ≡ size → size ≢ 1 → digits (value_magnitude value) + 1 ≡ size
counted-size pool value size sized more = cases (is_small value || list_any (same value) pool) refl
  where
    cases : (one : Bool) → (is_small value || list_any (same value) pool) ≡ one → digits (value_magnitude value) + 1 ≡ size
    cases true e = absurd (more (sym sized ∙ counted pool value true e))
    cases false e = sym (counted pool value false e) ∙ sized

-- between which magnitudes those of a size lie
pub sized-between : (n size first : ℕ) → 2 ≤ size → first ≡ 2 ^ (size - 2) → digits n + 1 ≡ size → (first ≤ n) × (n < 2 * first)
sized-between n size first more is sized =
    let between = some_digits (size - 2) n (omega (arith, sized, more)) in
    (omega (arith, is, between.0), omega (arith, is, between.1))

-- a power that fits 127 bits, as it is kept
pub kept-power : (size : ℕ) → 2 ≤ size → size ≤ 128 → (1 * 2 ^ (size - 2) % 2 ^ 128 ≡ 2 ^ (size - 2)) × (2 * 2 ^ (size - 2) ≤ 2 ^ 127)
kept-power size more few =
    let least : size - 2 ≤ 126 = omega arith in
    let small : 2 ^ (size - 2) ≤ 2 ^ 126 = pow_mono least in
    (omega (arith, small), omega (arith, small))

-- no constant has a size beyond 128
pub sized-few : (sort : Sort) (value : Val) → IsGivenConstant sort value → digits (value_magnitude value) + 1 ≤ 128
sized-few sort value given = bound (digits (value_magnitude value)) refl
  where
    bound : (d : ℕ) → digits (value_magnitude value) ≡ d → digits (value_magnitude value) + 1 ≤ 128
    bound zero e = omega (arith, e)
    bound (suc j) e =
        let between = some_digits j (value_magnitude value) e in
        let below = below-all sort value given in
        let few : j < 127 = exponent j (omega (arith, between.0, below)) in
        omega (arith, e, few)
      where
        split : (j : ℕ) → (j < 127) ⊎ (127 ≤ j)
        split j = grind arith

        exponent : (j : ℕ) → 2 ^ j < 2 ^ 127 → j < 127
        exponent j h = elim (split j) [
          | inl less ↦ less
          | inr more ↦ absurd (let wide : 2 ^ 127 ≤ 2 ^ j = pow_mono more in omega (arith, h, wide))
        ]

-- no constant that doesn't count 1 has less than size 2 or more than 128
pub no-size : (sort : Sort) (value : Val) (size : ℕ) → IsGivenConstant sort value → digits (value_magnitude value) + 1 ≡ size → size ≢ 1 → (size < 2) ⊎ (128 < size) → ⊥
no-size sort value size given sized more (inl less) = more (omega (arith, sized, less))
no-size sort value size given sized more (inr great) = omega (arith, sized, great, sized-few sort value given)

-- the ways to count 1
pub data IsOne (pool : List Val) (sort : Sort) (value : Val) : Type 0 where
  truth : (b : Bool) → value ≡ Truth b → IsOne pool sort value
  naught : value_at sort (pos 0) ≡ Some value → IsOne pool sort value
  unit : value_at sort (pos 1) ≡ Some value → IsOne pool sort value
  pooled : (i : ℕ) (item : Val) → slice_get pool i ≡ Some item → value_at sort (whole_number item) ≡ Some value → IsOne pool sort value

in-pool : (value : Val) (pool : List Val) → list_any (same value) pool ≡ true → (i : ℕ) × (item : Val) × (slice_get pool i ≡ Some item) × (value ≡ item)
in-pool value [] e = absurd cc
in-pool value (first ∷ pool) e = cases (λ rest. in-pool value pool rest) (same value first) refl
  where
    cases : (list_any (same value) pool ≡ true → (i : ℕ) × (item : Val) × (slice_get pool i ≡ Some item) × (value ≡ item)) → (b : Bool) → same value first ≡ b →
        (i : ℕ) × (item : Val) × (slice_get (first ∷ pool) i ≡ Some item) × (value ≡ item)
    cases further true is = (0, first, refl, same_is value first is)
    cases further false is =
        let found = further (ap (λ b. b || list_any (same value) pool) (sym is) ∙ e) in
        (suc found.0, found.1, found.2, found.3)

-- a value that isn't a truth value and isn't negative has its magnitude as its number
small-at : (pool : List Val) (sort : Sort) (value : Val) → value_at sort (whole_number value) ≡ Some value → is_negative value ≡ false → value_magnitude value ≤ 1 → IsOne pool sort value
small-at pool sort (Truth b) at sign small = truth b refl
small-at pool sort (Whole (pos zero)) at sign small = naught at
small-at pool sort (Whole (pos (suc zero))) at sign small = unit at
small-at pool sort (Whole (pos (suc (suc n)))) at sign small = absurd (omega (arith, small))
small-at pool sort (Whole (negsuc n)) at sign small = absurd cc
small-at pool sort (Bits w zero) at sign small = naught at
small-at pool sort (Bits w (suc zero)) at sign small = unit at
small-at pool sort (Bits w (suc (suc n))) at sign small = absurd (omega (arith, small))

pub ones : (pool : List Val) (sort : Sort) (value : Val) → IsGivenConstant sort value → constant_size pool value ≡ 1 → IsOne pool sort value
ones pool sort value given sized = elim (at-whole sort value given) [
  | inl t ↦ truth t.0 t.1
  | inr at ↦ small at (is_small value) refl
]
  where
    plain : (v : Val) → (not (is_negative v) && nat_le (value_magnitude v) 1) ≡ true → (is_negative v ≡ false) × (value_magnitude v ≤ 1)
    plain v e = let both = both_true (not (is_negative v)) (nat_le (value_magnitude v) 1) e in (unsigned (is_negative v) both.0, least (value_magnitude v) both.1)
      where
        unsigned : (b : Bool) → not b ≡ true → b ≡ false
        unsigned true e = absurd cc
        unsigned false e = refl

        least : (m : ℕ) → nat_le m 1 ≡ true → m ≤ 1
        least m e = grind arith

    -- where the size is counted by digits, there are none
    none : is_small value ≡ false → list_any (same value) pool ≡ false → digits (value_magnitude value) ≡ 0
    none small out =
        let one : (is_small value || list_any (same value) pool) ≡ false = ap (λ b. b || list_any (same value) pool) small ∙ out in
        omega (arith, counted pool value false one, sized)

    nothing : (v : Val) → value_magnitude v ≡ 0 → is_negative v ≡ false
    nothing (Truth b) e = refl
    nothing (Whole (pos n)) e = refl
    nothing (Whole (negsuc n)) e = absurd (omega (arith, e))
    nothing (Bits w n) e = refl

    member : value_at sort (whole_number value) ≡ Some value → is_small value ≡ false → (b : Bool) → list_any (same value) pool ≡ b → IsOne pool sort value
    member at large true e = let found = in-pool value pool e in pooled found.0 found.1 found.2 (ap (λ v. value_at sort (whole_number v)) (sym found.3) ∙ at)
    member at large false e = let zero = no_digits (value_magnitude value) (none large e) in small-at pool sort value at (nothing value zero) (omega (arith, zero))

    small : value_at sort (whole_number value) ≡ Some value → (b : Bool) → is_small value ≡ b → IsOne pool sort value
    small at true e = let both = plain value e in small-at pool sort value at both.0 both.1
    small at false e = member at e (list_any (same value) pool) refl

-- the sort's value that a written number is
pub given-at : (sort : Sort) (z : ℤ) (value : Val) → value_at sort z ≡ Some value → is_written (Whole z) ≡ true → IsGivenConstant sort value
given-at sorts.Bool z value at written = absurd cc
given-at sorts.Int z value at written = let same : Whole z ≡ value = cc in given-of sorts.Int value (ap sort_of_value same) (ap is_written (sym same) ∙ written)
given-at (sorts.Bits w) (pos n) value at written =
    let found = if_Some (nat_le 1 w && (nat_le w 64 && nat_lt n (2 ^ w))) (Bits w n) value at in
    given-of (sorts.Bits w) value (ap sort_of_value found.1) (ap is_written (sym found.1) ∙ found.0)
given-at (sorts.Bits w) (negsuc n) value at written = absurd cc

-- a number that isn't written is no given value
pub not-given : (sort : Sort) (z : ℤ) (value : Val) → value_at sort z ≡ Some value → is_written (Whole z) ≡ false → IsGivenConstant sort value → ⊥
not-given sorts.Bool z value at out given = absurd cc
not-given sorts.Int z value at out given =
    let same : Whole z ≡ value = cc in
    let of = of-given sorts.Int value given in
    let written = of.written in
    let no = ap is_written (sym same) ∙ out in
    cc
not-given (sorts.Bits w) (pos n) value at out given =
    let found = if_Some (nat_le 1 w && (nat_le w 64 && nat_lt n (2 ^ w))) (Bits w n) value at in
    let vector = is-vector w n found.0 in
    let small : w ≤ 127 = omega (arith, vector.few) in
    let wide : 2 ^ w ≤ 2 ^ 127 = pow_mono small in
    let written = lt-ltb n (2 ^ 127) (omega (arith, vector.below, wide)) in
    cc
not-given (sorts.Bits w) (negsuc n) value at out given = absurd cc

-- what is found of a theory's numbers is the sort's value
pub found-is : (numeric : Sort → Bool) (sort : Sort) (z : ℤ) (value : Val) (found : Option Val) → is_known numeric sort ≡ true → found ≡ (if numeric sort then value_at sort z else None) → value_at sort z ≡ Some value → found ≡ Some value
found-is numeric sorts.Bool z value found known is at = absurd cc
found-is numeric sorts.Int z value found known is at = is ∙ ap (λ b. if b then value_at sorts.Int z else None) known ∙ at
found-is numeric (sorts.Bits w) z value found known is at =
    let both = both_true (numeric (sorts.Bits w)) (nat_le 1 w && nat_le w 64) known in
    is ∙ ap (λ b. if b then value_at (sorts.Bits w) z else None) both.0 ∙ at

pub found-at : (b : Bool) (sort : Sort) (z : ℤ) (value : Val) → Some value ≡ (if b then value_at sort z else None) → value_at sort z ≡ Some value
found-at true sort z value is = sym is
found-at false sort z value is = absurd cc

-- truth values are given for their sort alone
pub truth-given : (sort : Sort) (b : Bool) → sort ≡ sorts.Bool → IsGivenConstant sort (Truth b)
truth-given sort b is = given-of sort (Truth b) is refl

pub truth-alone : (sort : Sort) (b : Bool) → IsGivenConstant sort (Truth b) → sort ≡ sorts.Bool
truth-alone sort b given = (of-given sort (Truth b) given).sorted
