-- The value of an operator has the operator's sort.
use Rattle.std.specs.Prelude.{ℕ, ◌+◌, ◌*◌, ◌-◌, Bool, true, false, cond, ◌&&◌, nat_eq, nat_le, nat_lt, List, [], ◌∷◌, ◌≡◌, refl, Option, Some, None, map, length, if◌then◌else◌, ℤ, not, neg_ℤ, ◌-ℤ◌, ◌+ℤ◌, ◌*ℤ◌, bit_and, bit_or, bit_xor}
use Rattle.std.specs.List.{list_all}
use Rattle.std.proofs.Common.{ap, ◌∙◌, sym}
use Rattle.std.proofs.lemmas.Bool.{eqb-true}
use Rattle.sy_terms.specs.Values.{Val, Truth, Whole, Bits, from_left, same}
use Rattle.sy_terms.specs.Operators.{op_value, on_bits, on_two, on_pair, on_whole, on_wholes, test_two}
use Rattle.sy_terms.specs.Sorts.{sort_of, same_sort, each_is, all_alike, choice, one_int, two_ints, one_width, two_widths, by_width, one_vector, two_vectors, vectors, up_to_64, two_joined, as_before, extracted, repeated, extended}
use Rattle.sy_terms.specs.Theories.{sort_of_value}
use Rattle.sy_terms.specs.Integers as int
use Rattle.sy_terms.specs.BitVectors as bv
use Rattle.sy_terms.specs.declared.op.Op.{Op}
use Rattle.sy_terms.specs.declared.op.Op.TheVariants as ops
use Rattle.sy_terms.specs.declared.sort.Sort.{Sort}
use Rattle.sy_terms.specs.declared.sort.Sort.TheVariants as sorts
use Rattle.sy_terms.specs.declared.sorts.Sorted.{Sorted}
use Rattle.sy_terms.specs.declared.sorts.Sorted.TheVariants.{Is, Mismatch, BadWidth}
use Rattle.sy_terms_operators.proofs.Equations.{both_true, same_sort_is, if_Some}

if_Is : (b : Bool) (x y : Sort) (other : Sorted) → other ≡ Mismatch → (if b then Is x else other) ≡ Is y → (b ≡ true) × (x ≡ y)
if_Is true x y other o e = (refl, cc)
if_Is false x y other o e = cc

if_Is-bad : (b : Bool) (x y : Sort) → (if b then Is x else BadWidth) ≡ Is y → (b ≡ true) × (x ≡ y)
if_Is-bad true x y e = (refl, cc)
if_Is-bad false x y e = cc

if-twice : (a b : Bool) (x y : Sort) → (if a then (if b then Is x else BadWidth) else BadWidth) ≡ Is y → x ≡ y
if-twice true b x y e = (if_Is-bad b x y e).1
if-twice false b x y e = cc

-- an operator taken from the left over values of a sort that it keeps
from_left-keeps : (f : Val → Val → Val) (s : Sort) → ((x y : Val) → sort_of_value x ≡ s → sort_of_value y ≡ s → sort_of_value (f x y) ≡ s) → (x : Val) (rest : List Val) → sort_of_value x ≡ s → list_all (same_sort s) (map sort_of_value rest) ≡ true → sort_of_value (from_left f (x ∷ rest)) ≡ s
from_left-keeps f s keeps x [] h each = h
from_left-keeps f s keeps x (y ∷ rest) h each =
    let both = both_true (same_sort s (sort_of_value y)) (list_all (same_sort s) (map sort_of_value rest)) each in
    from_left-keeps f s keeps (f x y) rest (keeps x y h (sym (same_sort_is s (sort_of_value y) both.0))) both.1

on_pair-keeps : (f : ℕ → ℕ → ℕ → ℕ) (w : ℕ) (x y : Val) → sort_of_value x ≡ sorts.Bits w → sort_of_value y ≡ sorts.Bits w → sort_of_value (on_pair f x y) ≡ sorts.Bits w
on_pair-keeps f w (Bits v m) (Bits u n) hx hy = hx
on_pair-keeps f w (Bits v m) (Truth b) hx hy = cc
on_pair-keeps f w (Bits v m) (Whole z) hx hy = cc
on_pair-keeps f w (Truth b) y hx hy = cc
on_pair-keeps f w (Whole z) y hx hy = cc

-- two values or more of a sort, where each step gives that sort
from_left-sort : (f : Val → Val → Val) (t : Sort) → ((x y : Val) → sort_of_value (f x y) ≡ t) → (values : List Val) (s : Sort) → each_is 2 t (map sort_of_value values) t ≡ Is s → sort_of_value (from_left f values) ≡ s
from_left-sort f t gives [] s e = cc
from_left-sort f t gives (x ∷ rest) s e =
    let parts = if_Is (nat_le 2 (length (map sort_of_value (x ∷ rest))) && list_all (same_sort t) (map sort_of_value (x ∷ rest))) t s Mismatch refl e in
    let both = both_true (nat_le 2 (length (map sort_of_value (x ∷ rest)))) (list_all (same_sort t) (map sort_of_value (x ∷ rest))) parts.0 in
    let each = both_true (same_sort t (sort_of_value x)) (list_all (same_sort t) (map sort_of_value rest)) both.1 in
    from_left-keeps f t (λ x y hx hy. gives x y) x rest (sym (same_sort_is t (sort_of_value x) each.0)) each.1 ∙ parts.1

each_is-value : (least : ℕ) (s value t : Sort) (ss : List Sort) → each_is least s ss value ≡ Is t → value ≡ t
each_is-value least s value t ss e = (if_Is (nat_le least (length ss) && list_all (same_sort s) ss) value t Mismatch refl e).1

all_alike-value : (ss : List Sort) (t : Sort) → all_alike ss ≡ Is t → sorts.Bool ≡ t
all_alike-value [] t e = cc
all_alike-value (s ∷ rest) t e = (if_Is (nat_le 1 (length rest) && list_all (same_sort s) rest) sorts.Bool t Mismatch refl e).1

vectors-sort : (f : ℕ → ℕ → ℕ → ℕ) (values : List Val) (s : Sort) → vectors (map sort_of_value values) ≡ Is s → sort_of_value (from_left (on_pair f) values) ≡ s
vectors-sort f [] s e = cc
vectors-sort f (Truth b ∷ rest) s e = cc
vectors-sort f (Whole z ∷ rest) s e = cc
vectors-sort f (Bits w n ∷ rest) s e =
    let parts = if_Is (nat_le 1 (length (map sort_of_value rest)) && list_all (same_sort (sorts.Bits w)) (map sort_of_value rest)) (sorts.Bits w) s Mismatch refl e in
    let both = both_true (nat_le 1 (length (map sort_of_value rest))) (list_all (same_sort (sorts.Bits w)) (map sort_of_value rest)) parts.0 in
    from_left-keeps (on_pair f) (sorts.Bits w) (on_pair-keeps f w) (Bits w n) rest refl both.1 ∙ parts.1

on_bits-sort : (f : ℕ → ℕ → ℕ) (values : List Val) (s : Sort) → one_vector as_before (map sort_of_value values) ≡ Is s → sort_of_value (on_bits f values) ≡ s
on_bits-sort f (Bits w n ∷ []) s e = cc
on_bits-sort f [] s e = cc
on_bits-sort f (Truth b ∷ rest) s e = cc
on_bits-sort f (Whole z ∷ rest) s e = cc
on_bits-sort f (Bits w n ∷ x ∷ rest) s e = cc

-- one vector
record One (w : ℕ) (values : List Val) : Type 0 where
  n : ℕ
  is : values ≡ Bits w n ∷ []

one_width-is : (values : List Val) (w : ℕ) → one_width (map sort_of_value values) ≡ Some w → One w values
one_width-is [] w e = cc
one_width-is (Truth b ∷ rest) w e = cc
one_width-is (Whole z ∷ rest) w e = cc
one_width-is (Bits v n ∷ x ∷ rest) w e = cc
one_width-is (Bits v n ∷ []) w e =
    let same : v ≡ w = cc in
    record { n = n; is = ap (λ (u : ℕ). Bits u n ∷ []) same }

-- two vectors of one width
record Two (w : ℕ) (values : List Val) : Type 0 where
  m : ℕ
  n : ℕ
  is : values ≡ Bits w m ∷ Bits w n ∷ []

if_Some-width : (v w u : ℕ) → (if nat_eq v w then Some w else None) ≡ Some u → (v ≡ u) × (w ≡ u)
if_Some-width v w u e =
    let both = if_Some (nat_eq v w) w u e in
    let same = eqb-true v w both.0 in
    (cc, both.1)

two_widths-is : (values : List Val) (w : ℕ) → two_widths (map sort_of_value values) ≡ Some w → Two w values
two_widths-is [] w e = cc
two_widths-is (Truth b ∷ rest) w e = cc
two_widths-is (Whole z ∷ rest) w e = cc
two_widths-is (Bits v m ∷ []) w e = cc
two_widths-is (Bits v m ∷ Truth b ∷ rest) w e = cc
two_widths-is (Bits v m ∷ Whole z ∷ rest) w e = cc
two_widths-is (Bits v m ∷ Bits u n ∷ x ∷ rest) w e = cc
two_widths-is (Bits v m ∷ Bits u n ∷ []) w e =
    let both = if_Some-width v u w e in
    record { m = m; n = n; is = cc }

record ByWidth (value : ℕ → Sorted) (found : Option ℕ) (s : Sort) : Type 0 where
  w : ℕ
  is : found ≡ Some w
  value_is : value w ≡ Is s

by_width-is : (value : ℕ → Sorted) (found : Option ℕ) (s : Sort) → by_width value found ≡ Is s → ByWidth value found s
by_width-is value None s e = cc
by_width-is value (Some w) s e = record { w = w; is = refl; value_is = e }

-- a value that is known by the one or the two vectors
one_vector-sort : (f : List Val → Val) (value : ℕ → Sorted) → ((w n : ℕ) (s : Sort) → value w ≡ Is s → sort_of_value (f (Bits w n ∷ [])) ≡ s) → (values : List Val) (s : Sort) → one_vector value (map sort_of_value values) ≡ Is s → sort_of_value (f values) ≡ s
one_vector-sort f value gives values s e =
    let by = by_width-is value (one_width (map sort_of_value values)) s e in
    let one = one_width-is values by.w by.is in
    rw (one.is) (gives by.w one.n s by.value_is)

two_vectors-sort : (f : List Val → Val) (value : ℕ → Sorted) → ((w m n : ℕ) (s : Sort) → value w ≡ Is s → sort_of_value (f (Bits w m ∷ Bits w n ∷ [])) ≡ s) → (values : List Val) (s : Sort) → two_vectors value (map sort_of_value values) ≡ Is s → sort_of_value (f values) ≡ s
two_vectors-sort f value gives values s e =
    let by = by_width-is value (two_widths (map sort_of_value values)) s e in
    let two = two_widths-is values by.w by.is in
    rw (two.is) (gives by.w two.m two.n s by.value_is)

Is_same : (s t : Sort) → Is s ≡ Is t → s ≡ t
Is_same s t e = cc

on_two-sort : (f : ℕ → ℕ → ℕ → ℕ) (values : List Val) (s : Sort) → two_vectors as_before (map sort_of_value values) ≡ Is s → sort_of_value (on_two f values) ≡ s
on_two-sort f values s e = two_vectors-sort (on_two f) as_before (λ w m n s e. Is_same (sorts.Bits w) s e) values s e

test_two-sort : (f : ℕ → ℕ → ℕ → Bool) (values : List Val) (s : Sort) → two_vectors (λ w. Is sorts.Bool) (map sort_of_value values) ≡ Is s → sort_of_value (test_two f values) ≡ s
test_two-sort f values s e = two_vectors-sort (test_two f) (λ w. Is sorts.Bool) (λ w m n s e. Is_same sorts.Bool s e) values s e

comp-sort : (values : List Val) (s : Sort) → two_vectors (λ w. Is (sorts.Bits 1)) (map sort_of_value values) ≡ Is s → sorts.Bits 1 ≡ s
comp-sort values s e = Is_same (sorts.Bits 1) s (by_width-is (λ w. Is (sorts.Bits 1)) (two_widths (map sort_of_value values)) s e).value_is

-- whole numbers
one_int-sort : (f : ℤ → ℤ) (values : List Val) (s : Sort) → one_int (map sort_of_value values) ≡ Is s → sort_of_value (on_whole f values) ≡ s
one_int-sort f [] s e = cc
one_int-sort f (Truth b ∷ rest) s e = cc
one_int-sort f (Bits w n ∷ rest) s e = cc
one_int-sort f (Whole z ∷ x ∷ rest) s e = cc
one_int-sort f (Whole z ∷ []) s e = cc

two_ints-sort : (f : ℤ → ℤ → ℤ) (values : List Val) (s : Sort) → two_ints (map sort_of_value values) ≡ Is s → sort_of_value (from_left (on_wholes f) values) ≡ s
two_ints-sort f [] s e = cc
two_ints-sort f (Truth b ∷ rest) s e = cc
two_ints-sort f (Bits w n ∷ rest) s e = cc
two_ints-sort f (Whole z ∷ []) s e = cc
two_ints-sort f (Whole z ∷ Truth b ∷ rest) s e = cc
two_ints-sort f (Whole z ∷ Bits w n ∷ rest) s e = cc
two_ints-sort f (Whole z ∷ Whole y ∷ x ∷ rest) s e = cc
two_ints-sort f (Whole z ∷ Whole y ∷ []) s e = cc

-- the others
not-value : (ss : List Sort) (s : Sort) → sort_of ops.Not ss ≡ Is s → sorts.Bool ≡ s
unfolding sort_of
not-value [] s e = cc
not-value (sorts.Int ∷ rest) s e = cc
not-value (sorts.Bits w ∷ rest) s e = cc
not-value (sorts.Bool ∷ x ∷ rest) s e = cc
not-value (sorts.Bool ∷ []) s e = cc

cond-sort : (b : Bool) (x y : Val) (s : Sort) → sort_of_value x ≡ s → sort_of_value y ≡ s → sort_of_value (cond b x y) ≡ s
cond-sort true x y s hx hy = hx
cond-sort false x y s hx hy = hy

ite-sort : (values : List Val) (s : Sort) → choice (map sort_of_value values) ≡ Is s → sort_of_value (op_value ops.Ite values) ≡ s
unfolding op_value
ite-sort [] s e = cc
ite-sort (Whole z ∷ rest) s e = cc
ite-sort (Bits w n ∷ rest) s e = cc
ite-sort (Truth b ∷ []) s e = cc
ite-sort (Truth b ∷ x ∷ []) s e = cc
ite-sort (Truth b ∷ x ∷ y ∷ z ∷ rest) s e = cc
ite-sort (Truth b ∷ x ∷ y ∷ []) s e =
    let parts = if_Is (same_sort (sort_of_value x) (sort_of_value y)) (sort_of_value x) s Mismatch refl e in
    let same = same_sort_is (sort_of_value x) (sort_of_value y) parts.0 in
    cond-sort b x y s parts.1 (sym same ∙ parts.1)

concat-sort : (values : List Val) (s : Sort) → two_joined (map sort_of_value values) ≡ Is s → sort_of_value (op_value ops.Concat values) ≡ s
unfolding op_value
concat-sort [] s e = cc
concat-sort (Truth b ∷ rest) s e = cc
concat-sort (Whole z ∷ rest) s e = cc
concat-sort (Bits w n ∷ []) s e = cc
concat-sort (Bits w n ∷ Truth b ∷ rest) s e = cc
concat-sort (Bits w n ∷ Whole z ∷ rest) s e = cc
concat-sort (Bits w n ∷ Bits v m ∷ x ∷ rest) s e = cc
concat-sort (Bits w n ∷ Bits v m ∷ []) s e = (if_Is-bad (nat_le (w + v) 64) (sorts.Bits (w + v)) s e).1

extract-sort : (i j : ℕ) (values : List Val) (s : Sort) → extracted i j (map sort_of_value values) ≡ Is s → sort_of_value (op_value (ops.Extract i j) values) ≡ s
unfolding op_value
extract-sort i j values s e = one_vector-sort (op_value (ops.Extract i j)) (λ w. if nat_le j i && nat_lt i w then Is (sorts.Bits (i - j + 1)) else BadWidth) (λ w n s e. (if_Is-bad (nat_le j i && nat_lt i w) (sorts.Bits (i - j + 1)) s e).1) values s e

repeated-value : (copies w : ℕ) (s : Sort) → (if nat_le 1 copies then up_to_64 (copies * w) else BadWidth) ≡ Is s → sorts.Bits (copies * w) ≡ s
repeated-value copies w s e = if-twice (nat_le 1 copies) (nat_le (copies * w) 64) (sorts.Bits (copies * w)) s e

repeat-sort : (i : ℕ) (values : List Val) (s : Sort) → repeated i (map sort_of_value values) ≡ Is s → sort_of_value (op_value (ops.Repeat i) values) ≡ s
unfolding op_value
repeat-sort i values s e = one_vector-sort (op_value (ops.Repeat i)) (λ w. if nat_le 1 i then up_to_64 (i * w) else BadWidth) (λ w n s e. repeated-value i w s e) values s e

zero_extend-sort : (i : ℕ) (values : List Val) (s : Sort) → extended i (map sort_of_value values) ≡ Is s → sort_of_value (op_value (ops.ZeroExtend i) values) ≡ s
unfolding op_value
zero_extend-sort i values s e = one_vector-sort (op_value (ops.ZeroExtend i)) (λ w. up_to_64 (w + i)) (λ w n s e. (if_Is-bad (nat_le (w + i) 64) (sorts.Bits (w + i)) s e).1) values s e

sign_extend-sort : (i : ℕ) (values : List Val) (s : Sort) → extended i (map sort_of_value values) ≡ Is s → sort_of_value (op_value (ops.SignExtend i) values) ≡ s
unfolding op_value
sign_extend-sort i values s e = one_vector-sort (op_value (ops.SignExtend i)) (λ w. up_to_64 (w + i)) (λ w n s e. (if_Is-bad (nat_le (w + i) 64) (sorts.Bits (w + i)) s e).1) values s e

-- the value of an operator, at arguments of sorts that fit, has the operator's sort
pub op_value-sort : (operator : Op) (values : List Val) (s : Sort) → sort_of operator (map sort_of_value values) ≡ Is s → sort_of_value (op_value operator values) ≡ s
unfolding sort_of op_value
op_value-sort ops.Not values s e = not-value (map sort_of_value values) s e
op_value-sort ops.And values s e = each_is-value 1 sorts.Bool sorts.Bool s (map sort_of_value values) e
op_value-sort ops.Or values s e = each_is-value 1 sorts.Bool sorts.Bool s (map sort_of_value values) e
op_value-sort ops.Xor values s e = from_left-sort (λ x y. Truth (not (same x y))) sorts.Bool (λ x y. refl) values s e
op_value-sort ops.Implies values s e = each_is-value 2 sorts.Bool sorts.Bool s (map sort_of_value values) e
op_value-sort ops.Equal values s e = all_alike-value (map sort_of_value values) s e
op_value-sort ops.Distinct values s e = all_alike-value (map sort_of_value values) s e
op_value-sort ops.Ite values s e = ite-sort values s e
op_value-sort ops.Neg values s e = one_int-sort neg_ℤ values s e
op_value-sort ops.Sub values s e = from_left-sort (on_wholes ◌-ℤ◌) sorts.Int (λ x y. refl) values s e
op_value-sort ops.Add values s e = from_left-sort (on_wholes ◌+ℤ◌) sorts.Int (λ x y. refl) values s e
op_value-sort ops.Mul values s e = from_left-sort (on_wholes ◌*ℤ◌) sorts.Int (λ x y. refl) values s e
op_value-sort ops.Div values s e = from_left-sort (on_wholes int.whole_quotient) sorts.Int (λ x y. refl) values s e
op_value-sort ops.Mod values s e = two_ints-sort int.modulus values s e
op_value-sort ops.Abs values s e = one_int-sort int.absolute values s e
op_value-sort ops.Le values s e = each_is-value 2 sorts.Int sorts.Bool s (map sort_of_value values) e
op_value-sort ops.Lt values s e = each_is-value 2 sorts.Int sorts.Bool s (map sort_of_value values) e
op_value-sort ops.Ge values s e = each_is-value 2 sorts.Int sorts.Bool s (map sort_of_value values) e
op_value-sort ops.Gt values s e = each_is-value 2 sorts.Int sorts.Bool s (map sort_of_value values) e
op_value-sort ops.Concat values s e = concat-sort values s e
op_value-sort (ops.Extract i j) values s e = extract-sort i j values s e
op_value-sort ops.BvNot values s e = on_bits-sort bv.inverted values s e
op_value-sort ops.BvNeg values s e = on_bits-sort bv.negated values s e
op_value-sort ops.BvAnd values s e = vectors-sort (λ w. bit_and) values s e
op_value-sort ops.BvOr values s e = vectors-sort (λ w. bit_or) values s e
op_value-sort ops.BvXor values s e = vectors-sort (λ w. bit_xor) values s e
op_value-sort ops.BvAdd values s e = vectors-sort bv.sum values s e
op_value-sort ops.BvMul values s e = vectors-sort bv.product values s e
op_value-sort ops.BvSub values s e = on_two-sort bv.difference values s e
op_value-sort ops.BvNand values s e = on_two-sort (λ w s t. bv.inverted w (bit_and s t)) values s e
op_value-sort ops.BvNor values s e = on_two-sort (λ w s t. bv.inverted w (bit_or s t)) values s e
op_value-sort ops.BvXnor values s e = on_two-sort (λ w s t. bv.inverted w (bit_xor s t)) values s e
op_value-sort ops.BvComp values s e = comp-sort values s e
op_value-sort ops.BvUdiv values s e = on_two-sort bv.quotient values s e
op_value-sort ops.BvUrem values s e = on_two-sort bv.remainder values s e
op_value-sort ops.BvSdiv values s e = on_two-sort bv.signed_quotient values s e
op_value-sort ops.BvSrem values s e = on_two-sort bv.signed_remainder values s e
op_value-sort ops.BvSmod values s e = on_two-sort bv.signed_modulus values s e
op_value-sort ops.BvShl values s e = on_two-sort bv.shifted_left values s e
op_value-sort ops.BvLshr values s e = on_two-sort bv.shifted_right values s e
op_value-sort ops.BvAshr values s e = on_two-sort bv.shifted_right_signed values s e
op_value-sort (ops.Repeat i) values s e = repeat-sort i values s e
op_value-sort (ops.ZeroExtend i) values s e = zero_extend-sort i values s e
op_value-sort (ops.SignExtend i) values s e = sign_extend-sort i values s e
op_value-sort (ops.RotateLeft i) values s e = on_bits-sort (bv.rotated_left i) values s e
op_value-sort (ops.RotateRight i) values s e = on_bits-sort (bv.rotated_right i) values s e
op_value-sort ops.BvUlt values s e = test_two-sort (λ w s t. nat_lt s t) values s e
op_value-sort ops.BvUle values s e = test_two-sort (λ w s t. nat_le s t) values s e
op_value-sort ops.BvUgt values s e = test_two-sort (λ w s t. nat_lt t s) values s e
op_value-sort ops.BvUge values s e = test_two-sort (λ w s t. nat_le t s) values s e
op_value-sort ops.BvSlt values s e = test_two-sort bv.signed_less values s e
op_value-sort ops.BvSle values s e = test_two-sort (λ w s t. not (bv.signed_less w t s)) values s e
op_value-sort ops.BvSgt values s e = test_two-sort (λ w s t. bv.signed_less w t s) values s e
op_value-sort ops.BvSge values s e = test_two-sort (λ w s t. not (bv.signed_less w s t)) values s e
