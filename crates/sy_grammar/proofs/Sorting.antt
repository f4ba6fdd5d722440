-- An operator's sort rests on what was seen of the arguments' sorts.
use Rattle.std.proofs.Common.{◌≡◌, ℕ, suc, ◌≤◌, List, [], ◌∷◌, length, refl, ap, sym, ◌∙◌, arith, Option, None, Bool, true, false, ◌&&◌, nat_le, nat_eq}
use Rattle.std.specs.Prelude.{if◌then◌else◌}
use Rattle.std.specs.List.{list_all}
use Rattle.std.proofs.lemmas.Bool.{eqb-true, le-leb}
use Rattle.sy_terms.specs.Sorts.{sort_of, same_sort, each_is, all_alike, vectors, choice, one_int, two_ints, one_width, two_widths, two_joined, by_width, one_vector, two_vectors}
use Rattle.sy_terms.specs.Fitting.{given_by}
use Rattle.sy_terms.specs.declared.op.Op.{Op}
use Rattle.sy_terms.specs.declared.op.Op.TheVariants as ops
use Rattle.sy_terms.specs.declared.sort.Sort.{Sort}
use Rattle.sy_terms.specs.declared.sort.Sort.TheVariants.{Bool as Truths, Int, Bits}
use Rattle.sy_terms.specs.declared.sorts.Sorted.{Sorted}
use Rattle.sy_terms.specs.declared.sorts.Sorted.TheVariants.{Is, Mismatch}
use Rattle.sy_grammar.specs.Seen.{after_all, sort_by}
use Rattle.sy_grammar.specs.declared.seen.Seen.TheVariants.{Nothing, Alike, Mixed}

pub same_sort_is : (s t : Sort) → same_sort s t ≡ true → s ≡ t
same_sort_is Truths Truths e = refl
same_sort_is Truths Int e = absurd cc
same_sort_is Truths (Bits w) e = absurd cc
same_sort_is Int Truths e = absurd cc
same_sort_is Int Int e = refl
same_sort_is Int (Bits w) e = absurd cc
same_sort_is (Bits v) Truths e = absurd cc
same_sort_is (Bits v) Int e = absurd cc
same_sort_is (Bits v) (Bits w) e = ap Bits (eqb-true v w e)

same_width : (w : ℕ) → nat_eq w w ≡ true
same_width w = grind arith

pub same_sort_self : (s : Sort) → same_sort s s ≡ true
same_sort_self Truths = refl
same_sort_self Int = refl
same_sort_self (Bits w) = same_width w

pub both_true : (a b : Bool) → (a && b) ≡ true → (a ≡ true) × (b ≡ true)
both_true true true e = (refl, refl)
both_true true false e = absurd cc
both_true false b e = absurd cc

abbrev all_as : Sort → List Sort → Bool
all_as sort rest = list_all (same_sort sort) rest

after_mixed : (rest : List Sort) → after_all Mixed rest ≡ Mixed
after_mixed [] = refl
after_mixed (s ∷ rest) = after_mixed rest

alike_step : (b : Bool) (a : Sort) (rest : List Sort) → after_all (Alike a) rest ≡ (if all_as a rest then Alike a else Mixed) → after_all (if b then Alike a else Mixed) rest ≡ (if (b && all_as a rest) then Alike a else Mixed)
alike_step true a rest e = e
alike_step false a rest e = after_mixed rest

after_alike : (a : Sort) (rest : List Sort) → after_all (Alike a) rest ≡ (if all_as a rest then Alike a else Mixed)
after_alike a [] = refl
after_alike a (s ∷ rest) = alike_step (same_sort a s) a rest (after_alike a rest)

and_moved : (x y z w : Bool) → ((x && (y && z)) && w) ≡ (x && (y && (z && w)))
and_moved true true z w = refl
and_moved true false z w = refl
and_moved false y z w = refl

after_four : (a b c d : Sort) (rest : List Sort) → after_all Nothing (a ∷ b ∷ c ∷ d ∷ rest) ≡ (if all_as a (b ∷ c ∷ d ∷ rest) then Alike a else Mixed)
after_four a b c d rest =
    alike_step (same_sort a b && (same_sort a c && same_sort a d)) a rest (after_alike a rest)
    ∙ ap (λ (t : Bool). if t then Alike a else Mixed) (and_moved (same_sort a b) (same_sort a c) (same_sort a d) (all_as a rest))

-- how an operator's sort comes from its arguments' sorts
data Kind (operator : Op) : Type 0 where
  Each : (least : ℕ) → (sort value : Sort) → (few : least ≤ 4) → (is : (sorts : List Sort) → sort_of operator sorts ≡ each_is least sort sorts value) → Kind operator
  Likes : (is : (sorts : List Sort) → sort_of operator sorts ≡ all_alike sorts) → Kind operator
  Vectors : (is : (sorts : List Sort) → sort_of operator sorts ≡ vectors sorts) → Kind operator
  Few : (is : (a b c d : Sort) (rest : List Sort) → given_by (sort_of operator (a ∷ b ∷ c ∷ d ∷ rest)) ≡ None) → Kind operator

choice_many : (a b c d : Sort) (rest : List Sort) → choice (a ∷ b ∷ c ∷ d ∷ rest) ≡ Mismatch
choice_many Truths b c d rest = refl
choice_many Int b c d rest = refl
choice_many (Bits w) b c d rest = refl

one_int_many : (a b c d : Sort) (rest : List Sort) → one_int (a ∷ b ∷ c ∷ d ∷ rest) ≡ Mismatch
one_int_many Truths b c d rest = refl
one_int_many Int b c d rest = refl
one_int_many (Bits w) b c d rest = refl

two_ints_many : (a b c d : Sort) (rest : List Sort) → two_ints (a ∷ b ∷ c ∷ d ∷ rest) ≡ Mismatch
two_ints_many Truths b c d rest = refl
two_ints_many (Bits w) b c d rest = refl
two_ints_many Int Truths c d rest = refl
two_ints_many Int Int c d rest = refl
two_ints_many Int (Bits w) c d rest = refl

one_width_many : (a b c d : Sort) (rest : List Sort) → one_width (a ∷ b ∷ c ∷ d ∷ rest) ≡ None
one_width_many Truths b c d rest = refl
one_width_many Int b c d rest = refl
one_width_many (Bits w) b c d rest = refl

two_widths_many : (a b c d : Sort) (rest : List Sort) → two_widths (a ∷ b ∷ c ∷ d ∷ rest) ≡ None
two_widths_many Truths b c d rest = refl
two_widths_many Int b c d rest = refl
two_widths_many (Bits w) Truths c d rest = refl
two_widths_many (Bits w) Int c d rest = refl
two_widths_many (Bits w) (Bits v) c d rest = refl

two_joined_many : (a b c d : Sort) (rest : List Sort) → two_joined (a ∷ b ∷ c ∷ d ∷ rest) ≡ Mismatch
two_joined_many Truths b c d rest = refl
two_joined_many Int b c d rest = refl
two_joined_many (Bits w) Truths c d rest = refl
two_joined_many (Bits w) Int c d rest = refl
two_joined_many (Bits w) (Bits v) c d rest = refl

not_many : (a b c d : Sort) (rest : List Sort) → sort_of ops.Not (a ∷ b ∷ c ∷ d ∷ rest) ≡ Mismatch
unfolding sort_of
not_many Truths b c d rest = refl
not_many Int b c d rest = refl
not_many (Bits w) b c d rest = refl

abbrev one_wide : (ℕ → Sorted) → Sort → Sort → Sort → Sort → List Sort → Type 0
one_wide value a b c d rest = given_by (one_vector value (a ∷ b ∷ c ∷ d ∷ rest)) ≡ None

one_many : (value : ℕ → Sorted) (a b c d : Sort) (rest : List Sort) → one_wide value a b c d rest
one_many value a b c d rest = ap (λ (w : Option ℕ). given_by (by_width value w)) (one_width_many a b c d rest)

two_many : (value : ℕ → Sorted) (a b c d : Sort) (rest : List Sort) → given_by (two_vectors value (a ∷ b ∷ c ∷ d ∷ rest)) ≡ None
two_many value a b c d rest = ap (λ (w : Option ℕ). given_by (by_width value w)) (two_widths_many a b c d rest)

kind : (operator : Op) → Kind operator
unfolding sort_of
kind ops.Not = Few (λ a b c d rest. ap given_by (not_many a b c d rest))
kind ops.And = Each 1 Truths Truths (omega arith) (λ sorts. refl)
kind ops.Or = Each 1 Truths Truths (omega arith) (λ sorts. refl)
kind ops.Xor = Each 2 Truths Truths (omega arith) (λ sorts. refl)
kind ops.Implies = Each 2 Truths Truths (omega arith) (λ sorts. refl)
kind ops.Equal = Likes (λ sorts. refl)
kind ops.Distinct = Likes (λ sorts. refl)
kind ops.Ite = Few (λ a b c d rest. ap given_by (choice_many a b c d rest))
kind ops.Neg = Few (λ a b c d rest. ap given_by (one_int_many a b c d rest))
kind ops.Sub = Each 2 Int Int (omega arith) (λ sorts. refl)
kind ops.Add = Each 2 Int Int (omega arith) (λ sorts. refl)
kind ops.Mul = Each 2 Int Int (omega arith) (λ sorts. refl)
kind ops.Div = Each 2 Int Int (omega arith) (λ sorts. refl)
kind ops.Mod = Few (λ a b c d rest. ap given_by (two_ints_many a b c d rest))
kind ops.Abs = Few (λ a b c d rest. ap given_by (one_int_many a b c d rest))
kind ops.Le = Each 2 Int Truths (omega arith) (λ sorts. refl)
kind ops.Lt = Each 2 Int Truths (omega arith) (λ sorts. refl)
kind ops.Ge = Each 2 Int Truths (omega arith) (λ sorts. refl)
kind ops.Gt = Each 2 Int Truths (omega arith) (λ sorts. refl)
kind ops.Concat = Few (λ a b c d rest. ap given_by (two_joined_many a b c d rest))
kind (ops.Extract i j) = Few (λ a b c d rest. one_many _ a b c d rest)
kind ops.BvNot = Few (λ a b c d rest. one_many _ a b c d rest)
kind ops.BvNeg = Few (λ a b c d rest. one_many _ a b c d rest)
kind ops.BvAnd = Vectors (λ sorts. refl)
kind ops.BvOr = Vectors (λ sorts. refl)
kind ops.BvXor = Vectors (λ sorts. refl)
kind ops.BvAdd = Vectors (λ sorts. refl)
kind ops.BvMul = Vectors (λ sorts. refl)
kind (ops.Repeat i) = Few (λ a b c d rest. one_many _ a b c d rest)
kind (ops.ZeroExtend i) = Few (λ a b c d rest. one_many _ a b c d rest)
kind (ops.SignExtend i) = Few (λ a b c d rest. one_many _ a b c d rest)
kind (ops.RotateLeft i) = Few (λ a b c d rest. one_many _ a b c d rest)
kind (ops.RotateRight i) = Few (λ a b c d rest. one_many _ a b c d rest)
kind _ = Few (λ a b c d rest. two_many _ a b c d rest)

at_least : (least n : ℕ) → least ≤ 4 → nat_le least (suc (suc (suc (suc n)))) ≡ true
at_least least n few = le-leb least (suc (suc (suc (suc n)))) (omega (arith, few))

if_both : (x y : Bool) (then_this or_this : Sorted) → x ≡ true → y ≡ true → (if (x && y) then then_this else or_this) ≡ then_this
if_both true true s t e f = refl
if_both true false s t e f = absurd cc
if_both false y s t e f = absurd cc

if_not : (x y : Bool) (then_this or_this : Sorted) → y ≡ false → (if (x && y) then then_this else or_this) ≡ or_this
if_not true true s t e = absurd cc
if_not true false s t e = refl
if_not false y s t e = refl

-- more arguments of the sort of the first
abbrev four : Sort → List Sort → List Sort
four a rest = a ∷ a ∷ a ∷ a ∷ rest

all_four : (sort a : Sort) (rest : List Sort) → same_sort sort a ≡ true → list_all (same_sort sort) rest ≡ true → list_all (same_sort sort) (four a rest) ≡ true
all_four sort a rest e f = rw e f

not_first : (sort a : Sort) (rest : List Sort) → same_sort sort a ≡ false → list_all (same_sort sort) (a ∷ rest) ≡ false
not_first sort a rest e = rw e refl

each_by : (t : Bool) (least : ℕ) (sort value a : Sort) (rest : List Sort) → least ≤ 4 → same_sort sort a ≡ t → all_as a rest ≡ true → each_is least sort (four a []) value ≡ each_is least sort (four a rest) value
each_by true least sort value a rest few e f =
    let same = same_sort_is sort a e in
    if_both (nat_le least 4) _ (Is value) Mismatch (at_least least 0 few) (all_four sort a [] e refl)
    ∙ sym (if_both (nat_le least (length (four a rest))) _ (Is value) Mismatch (at_least least (length rest) few) (all_four sort a rest e (ap (λ s. list_all (same_sort s) rest) same ∙ f)))
each_by false least sort value a rest few e f =
    if_not (nat_le least 4) _ (Is value) Mismatch (not_first sort a (a ∷ a ∷ a ∷ []) e)
    ∙ sym (if_not (nat_le least (length (four a rest))) _ (Is value) Mismatch (not_first sort a (a ∷ a ∷ a ∷ rest) e))

likes_four : (a : Sort) (rest : List Sort) → all_as a rest ≡ true → all_alike (four a rest) ≡ Is Truths
likes_four a rest f = if_both (nat_le 1 (suc (suc (suc (length rest))))) _ (Is Truths) Mismatch (le-leb 1 (suc (suc (suc (length rest)))) (omega arith)) (rw (same_sort_self a) f)

vectors_four : (w : ℕ) (rest : List Sort) → all_as (Bits w) rest ≡ true → vectors (four (Bits w) rest) ≡ Is (Bits w)
vectors_four w rest f = if_both (nat_le 1 (suc (suc (suc (length rest))))) _ (Is (Bits w)) Mismatch (le-leb 1 (suc (suc (suc (length rest)))) (omega arith)) (rw (same_width w) f)

vectors_more : (a : Sort) (rest : List Sort) → all_as a rest ≡ true → vectors (four a []) ≡ vectors (four a rest)
vectors_more Truths rest f = refl
vectors_more Int rest f = refl
vectors_more (Bits w) rest f = vectors_four w [] refl ∙ sym (vectors_four w rest f)

more_alike : (operator : Op) (a : Sort) (rest : List Sort) → Kind operator → all_as a rest ≡ true → given_by (sort_of operator (four a [])) ≡ given_by (sort_of operator (four a rest))
more_alike operator a rest (Each least sort value few is) f = ap given_by (is (four a []) ∙ each_by (same_sort sort a) least sort value a rest few refl f ∙ sym (is (four a rest)))
more_alike operator a rest (Likes is) f = ap given_by (is (four a []) ∙ likes_four a [] refl ∙ sym (likes_four a rest f) ∙ sym (is (four a rest)))
more_alike operator a rest (Vectors is) f = ap given_by (is (four a []) ∙ vectors_more a rest f ∙ sym (is (four a rest)))
more_alike operator a rest (Few is) f = is a a a a [] ∙ sym (is a a a a rest)

-- arguments that are not all of one sort
mixed_by : (t : Bool) (sort a : Sort) (others : List Sort) → same_sort sort a ≡ t → all_as a others ≡ false → list_all (same_sort sort) (a ∷ others) ≡ false
mixed_by true sort a others e f = rw e (ap (λ s. list_all (same_sort s) others) (same_sort_is sort a e) ∙ f)
mixed_by false sort a others e f = not_first sort a others e

vectors_mixed : (a : Sort) (others : List Sort) → all_as a others ≡ false → vectors (a ∷ others) ≡ Mismatch
vectors_mixed Truths others f = refl
vectors_mixed Int others f = refl
vectors_mixed (Bits w) others f = if_not (nat_le 1 (length others)) _ (Is (Bits w)) Mismatch f

none_mixed : (operator : Op) (a b c d : Sort) (rest : List Sort) → Kind operator → all_as a (b ∷ c ∷ d ∷ rest) ≡ false → given_by (sort_of operator (a ∷ b ∷ c ∷ d ∷ rest)) ≡ None
none_mixed operator a b c d rest (Each least sort value few is) f = ap given_by (is (a ∷ b ∷ c ∷ d ∷ rest) ∙ if_not (nat_le least (length (a ∷ b ∷ c ∷ d ∷ rest))) _ (Is value) Mismatch (mixed_by (same_sort sort a) sort a (b ∷ c ∷ d ∷ rest) refl f))
none_mixed operator a b c d rest (Likes is) f = ap given_by (is (a ∷ b ∷ c ∷ d ∷ rest) ∙ if_not (nat_le 1 (length (b ∷ c ∷ d ∷ rest))) _ (Is Truths) Mismatch f)
none_mixed operator a b c d rest (Vectors is) f = ap given_by (is (a ∷ b ∷ c ∷ d ∷ rest) ∙ vectors_mixed a (b ∷ c ∷ d ∷ rest) f)
none_mixed operator a b c d rest (Few is) f = is a b c d rest

by_many : (t : Bool) (operator : Op) (a b c d : Sort) (rest : List Sort) → all_as a (b ∷ c ∷ d ∷ rest) ≡ t → sort_by operator (if t then Alike a else Mixed) ≡ given_by (sort_of operator (a ∷ b ∷ c ∷ d ∷ rest))
by_many true operator a b c d rest e =
    let one = both_true (same_sort a b) (same_sort a c && (same_sort a d && all_as a rest)) e in
    let two = both_true (same_sort a c) (same_sort a d && all_as a rest) one.1 in
    let three = both_true (same_sort a d) (all_as a rest) two.1 in
    more_alike operator a rest (kind operator) three.1
    ∙ ap (λ x. given_by (sort_of operator (a ∷ x ∷ a ∷ a ∷ rest))) (same_sort_is a b one.0)
    ∙ ap (λ x. given_by (sort_of operator (a ∷ b ∷ x ∷ a ∷ rest))) (same_sort_is a c two.0)
    ∙ ap (λ x. given_by (sort_of operator (a ∷ b ∷ c ∷ x ∷ rest))) (same_sort_is a d three.0)
by_many false operator a b c d rest e = sym (none_mixed operator a b c d rest (kind operator) e)

pub sort_by_all : (operator : Op) (sorts : List Sort) → sort_by operator (after_all Nothing sorts) ≡ given_by (sort_of operator sorts)
sort_by_all operator [] = refl
sort_by_all operator (a ∷ []) = refl
sort_by_all operator (a ∷ b ∷ []) = refl
sort_by_all operator (a ∷ b ∷ c ∷ []) = refl
sort_by_all operator (a ∷ b ∷ c ∷ d ∷ rest) = ap (sort_by operator) (after_four a b c d rest) ∙ by_many (all_as a (b ∷ c ∷ d ∷ rest)) operator a b c d rest refl
