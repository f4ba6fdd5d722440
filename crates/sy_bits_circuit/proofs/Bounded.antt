-- The circuits of operators have few gates, measured by their weight and the widths of their arguments.
use Rattle.std.specs.Prelude.{ℕ, ◌+◌, ◌*◌, ◌-◌, ◌≤◌, ◌≡◌, Bool, true, false, ◌&&◌, nat_le, nat_lt, nat_eq, List, [], ◌∷◌, refl, Some, None, length, if◌then◌else◌, All}
use Rattle.std.specs.List.{list_all}
use Rattle.std.proofs.Common.{arith, zero, suc, ap, sym, subst}
use Rattle.std.proofs.Math.Nat.{mul-le-mul_left, mul-le-mul_right}
use Rattle.std.proofs.lemmas.List.Elements.{All-head, All-tail}
use Rattle.std.proofs.lemmas.Bool.{eqb-true}
use Rattle.std.proofs.lemmas.Bool.Decides.{nat_tests}
use Rattle.sy_terms.specs.Theories.{in_core}
use Rattle.sy_terms.specs.Sorts.{sort_of, same_sort, each_is, all_alike, choice, one_int, two_ints, by_width, one_vector, two_vectors, vectors, up_to_64, two_joined, as_before}
use Rattle.sy_terms.specs.declared.op.Op.{Op}
use Rattle.sy_terms.specs.declared.op.Op.TheVariants as ops
use Rattle.sy_terms.specs.declared.sort.Sort.{Sort}
use Rattle.sy_terms.specs.declared.sort.Sort.TheVariants as sorts
use Rattle.sy_terms.specs.declared.sorts.Sorted.{Sorted}
use Rattle.sy_terms.specs.declared.sorts.Sorted.TheVariants.{Is, Mismatch, BadWidth}
use Rattle.sy_meaning_words.specs.Vectors.{owned}
use Rattle.sy_query_base.specs.Weights.{operator_weight, sort_weight}
use Rattle.sy_bits_operators.specs.Signals.{has_signals, AllHaveSignals, sort_width, total_width}
use Rattle.sy_bits_operators.specs.Costs.{gates, pair_gates}

abbrev Few : Op → List Sort → Sort → Type 0
Few op ss s = gates op ss ≤ 140 * operator_weight op (length ss) (sort_weight (Some s)) + 5 * total_width ss

both_true : (a b : Bool) → (a && b) ≡ true → (a ≡ true) × (b ≡ true)
both_true true b e = (refl, e)
both_true false b e = cc

if_Is : (b : Bool) (x s : Sort) → (if b then Is x else Mismatch) ≡ Is s → (b ≡ true) × (x ≡ s)
if_Is true x s e = (refl, cc)
if_Is false x s e = cc

wide : (w : ℕ) → has_signals (sorts.Bits w) ≡ true → (1 ≤ w) × (w ≤ 64)
wide w h = grind (arith, nat_tests)

at_least_one : (s : Sort) → has_signals s ≡ true → 1 ≤ sort_width s
at_least_one sorts.Bool h = omega arith
at_least_one sorts.Int h = cc
at_least_one (sorts.Bits w) h = (wide w h).0

at_most_64 : (s : Sort) → has_signals s ≡ true → sort_width s ≤ 64
at_most_64 sorts.Bool h = omega arith
at_most_64 sorts.Int h = cc
at_most_64 (sorts.Bits w) h = (wide w h).1

head : (t : Sort) (rest : List Sort) → AllHaveSignals (t ∷ rest) → has_signals t ≡ true
head t rest all = All-head (λ sort. has_signals sort ≡ true) t rest all

tail : (t : Sort) (rest : List Sort) → AllHaveSignals (t ∷ rest) → AllHaveSignals rest
tail t rest all = All-tail (λ sort. has_signals sort ≡ true) t rest all

one_each : (ss : List Sort) → AllHaveSignals ss → length ss ≤ total_width ss
one_each [] all = omega arith
one_each (s ∷ ss) all = omega (arith, at_least_one s (head s ss all), one_each ss (tail s ss all))

same_width : (s t : Sort) → same_sort s t ≡ true → sort_width t ≡ sort_width s
same_width sorts.Bool sorts.Bool e = refl
same_width sorts.Int sorts.Int e = refl
same_width (sorts.Bits v) (sorts.Bits w) e = sym (eqb-true v w e)
same_width sorts.Bool sorts.Int e = cc
same_width sorts.Bool (sorts.Bits w) e = cc
same_width sorts.Int sorts.Bool e = cc
same_width sorts.Int (sorts.Bits w) e = cc
same_width (sorts.Bits v) sorts.Bool e = cc
same_width (sorts.Bits v) sorts.Int e = cc

-- signals of one sort
times : (s : Sort) (ss : List Sort) → list_all (same_sort s) ss ≡ true → total_width ss ≡ length ss * sort_width s
times s [] e = omega arith
times s (t ∷ ss) e =
    let parts = both_true (same_sort s t) (list_all (same_sort s) ss) e in
    let more : length (t ∷ ss) * sort_width s ≡ sort_width s + length ss * sort_width s = omega arith in
    omega (arith, more, same_width s t parts.0, times s ss parts.1)

square : (w : ℕ) → 1 ≤ w → w ≤ w * w
square zero h = absurd (omega arith)
square (suc w) h = omega arith

truths_few : (n t : ℕ) → n ≤ t → n ≤ 140 * 1 + 5 * t
truths_few n t h = omega (arith, h)

-- all of one sort

record Alike (ss : List Sort) (s : Sort) : Type 0 where
  pub first : Sort
  pub rest : List Sort
  pub is : ss ≡ first ∷ rest
  pub same : list_all (same_sort first) rest ≡ true
  pub truth : sorts.Bool ≡ s

alike : (ss : List Sort) (s : Sort) → all_alike ss ≡ Is s → Alike ss s
alike [] s e = cc
alike (t ∷ rest) s e =
    let parts = if_Is (nat_le 1 (length rest) && list_all (same_sort t) rest) sorts.Bool s e in
    record { first = t; rest = rest; is = refl; same = (both_true (nat_le 1 (length rest)) (list_all (same_sort t) rest) parts.0).1; truth = parts.1 }

equal_few : (k n w t : ℕ) → k ≡ n + 1 → t ≡ w + n * w → 1 ≤ w → k * (2 * w + 1) ≤ 140 * 1 + 5 * t
equal_few k n w t c e h =
    let m : n * 1 ≤ n * w = mul-le-mul_left n h in
    let done : (n + 1) * (2 * w + 1) ≤ 140 * 1 + 5 * t = omega (arith, e, m, h) in
    rw c done

distinct_few : (k w t : ℕ) → w ≤ 64 → k * (k * (2 * w + 1)) ≤ 140 * (k * k) + t
distinct_few k w t h =
    let a : 2 * w + 1 ≤ 140 = omega (arith, h) in
    let b : k * (2 * w + 1) ≤ k * 140 = mul-le-mul_left k a in
    let c : k * (k * (2 * w + 1)) ≤ k * (k * 140) = mul-le-mul_left k b in
    omega (arith, c)

equal_at : (ss : List Sort) (s : Sort) → Alike ss s → AllHaveSignals ss → Few ops.Equal ss s
equal_at ss s a all =
    let all' : AllHaveSignals (a.first ∷ a.rest) = subst AllHaveSignals a.is all in
    let t = times a.first a.rest a.same in
    let done : Few ops.Equal (a.first ∷ a.rest) sorts.Bool = equal_few (length (a.first ∷ a.rest)) (length a.rest) (sort_width a.first) (total_width (a.first ∷ a.rest)) (omega arith) (ap (λ n. sort_width a.first + n) t) (at_least_one a.first (head a.first a.rest all')) in
    rw (a.is, ← a.truth) done

distinct_at : (ss : List Sort) (s : Sort) → Alike ss s → AllHaveSignals ss → Few ops.Distinct ss s
distinct_at ss s a all =
    let all' : AllHaveSignals (a.first ∷ a.rest) = subst AllHaveSignals a.is all in
    let done : Few ops.Distinct (a.first ∷ a.rest) sorts.Bool = distinct_few (length (a.first ∷ a.rest)) (sort_width a.first) (5 * total_width (a.first ∷ a.rest)) (at_most_64 a.first (head a.first a.rest all')) in
    rw a.is done

few_truths : (op : Op) (least : ℕ) (ss : List Sort) (s : Sort) → each_is least sorts.Bool ss sorts.Bool ≡ Is s → AllHaveSignals ss → (length ss ≤ 140 * 1 + 5 * total_width ss → Few op ss sorts.Bool) → Few op ss s
few_truths op least ss s e all is =
    let parts = if_Is (nat_le least (length ss) && list_all (same_sort sorts.Bool) ss) sorts.Bool s e in
    rw (← parts.1) (is (truths_few (length ss) (total_width ss) (one_each ss all)))

few_not : (ss : List Sort) (s : Sort) → sort_of ops.Not ss ≡ Is s → Few ops.Not ss s
unfolding sort_of
few_not [] s e = cc
few_not (sorts.Int ∷ rest) s e = cc
few_not (sorts.Bits w ∷ rest) s e = cc
few_not (sorts.Bool ∷ x ∷ rest) s e = cc
few_not (sorts.Bool ∷ []) s e = let t : sorts.Bool ≡ s = cc in rw (← t) (omega arith)

few_choice : (ss : List Sort) (s : Sort) → choice ss ≡ Is s → Few ops.Ite ss s
few_choice [] s e = cc
few_choice (sorts.Int ∷ rest) s e = cc
few_choice (sorts.Bits w ∷ rest) s e = cc
few_choice (sorts.Bool ∷ []) s e = cc
few_choice (sorts.Bool ∷ x ∷ []) s e = cc
few_choice (sorts.Bool ∷ x ∷ y ∷ z ∷ rest) s e = cc
few_choice (sorts.Bool ∷ x ∷ y ∷ []) s e = omega arith

-- one vector

few_one : (op : Op) (value : ℕ → Sorted) (ss : List Sort) (s : Sort) → one_vector value ss ≡ Is s → ((w : ℕ) → Few op (sorts.Bits w ∷ []) s) → Few op ss s
few_one op value [] s e few = cc
few_one op value (sorts.Bool ∷ rest) s e few = cc
few_one op value (sorts.Int ∷ rest) s e few = cc
few_one op value (sorts.Bits w ∷ t ∷ rest) s e few = cc
few_one op value (sorts.Bits w ∷ []) s e few = few w

-- two vectors

if_width : (b : Bool) (value : ℕ → Sorted) (w : ℕ) (s : Sort) → by_width value (if b then Some w else None) ≡ Is s → (b ≡ true) × (value w ≡ Is s)
if_width true value w s e = (refl, e)
if_width false value w s e = cc

few_two : (op : Op) (t : ℕ → Sort) (ss : List Sort) (s : Sort) → two_vectors (λ w. Is (t w)) ss ≡ Is s → AllHaveSignals ss → ((w : ℕ) → 1 ≤ w → Few op (sorts.Bits w ∷ sorts.Bits w ∷ []) (t w)) → Few op ss s
few_two op t [] s e all few = cc
few_two op t (sorts.Bool ∷ rest) s e all few = cc
few_two op t (sorts.Int ∷ rest) s e all few = cc
few_two op t (sorts.Bits w ∷ []) s e all few = cc
few_two op t (sorts.Bits w ∷ sorts.Bool ∷ rest) s e all few = cc
few_two op t (sorts.Bits w ∷ sorts.Int ∷ rest) s e all few = cc
few_two op t (sorts.Bits w ∷ sorts.Bits v ∷ u ∷ rest) s e all few = cc
few_two op t (sorts.Bits w ∷ sorts.Bits v ∷ []) s e all few =
    let parts = if_width (nat_eq w v) (λ w. Is (t w)) v s e in
    let same : w ≡ v = eqb-true w v parts.0 in
    let value : t v ≡ s = cc in
    rw (same, ← value) (few v (wide v (head (sorts.Bits v) [] (tail (sorts.Bits w) (sorts.Bits v ∷ []) all))).0)

few_both : (ss : List Sort) (s : Sort) → two_joined ss ≡ Is s → Few ops.Concat ss s
few_both [] s e = cc
few_both (sorts.Bool ∷ rest) s e = cc
few_both (sorts.Int ∷ rest) s e = cc
few_both (sorts.Bits w ∷ []) s e = cc
few_both (sorts.Bits w ∷ sorts.Bool ∷ rest) s e = cc
few_both (sorts.Bits w ∷ sorts.Int ∷ rest) s e = cc
few_both (sorts.Bits w ∷ sorts.Bits v ∷ t ∷ rest) s e = cc
few_both (sorts.Bits w ∷ sorts.Bits v ∷ []) s e = omega arith

-- many vectors of one width

few_many : (op : Op) → in_core op ≡ false → (ss : List Sort) (s : Sort) → vectors ss ≡ Is s → AllHaveSignals ss → ((k n w : ℕ) → k ≡ n + 1 → 1 ≤ w → n * pair_gates op w ≤ 140 * operator_weight op k w + 5 * (w + n * w)) → Few op ss s
few_many op c [] s e all few = cc
few_many op c (sorts.Bool ∷ rest) s e all few = cc
few_many op c (sorts.Int ∷ rest) s e all few = cc
few_many op c (sorts.Bits w ∷ []) s e all few = cc
few_many op c (sorts.Bits w ∷ t ∷ rest) s e all few =
    let parts = if_Is (nat_le 1 (length (t ∷ rest)) && list_all (same_sort (sorts.Bits w)) (t ∷ rest)) (sorts.Bits w) s e in
    let same = (both_true (nat_le 1 (length (t ∷ rest))) (list_all (same_sort (sorts.Bits w)) (t ∷ rest)) parts.0).1 in
    let total = times (sorts.Bits w) (t ∷ rest) same in
    rw (c, ← parts.1, total) (few (length (sorts.Bits w ∷ t ∷ rest)) (length (t ∷ rest)) w (omega arith) (wide w (head (sorts.Bits w) (t ∷ rest) all)).0)

linear_few : (n w : ℕ) → 1 ≤ w → n * (3 * w + 2) ≤ 140 * w + 5 * (w + n * w)
linear_few n w h =
    let m : n * 1 ≤ n * w = mul-le-mul_left n h in
    omega (arith, m)

product_few : (k n q t : ℕ) → k ≡ n + 1 → n * (4 * q) ≤ 140 * ((k - 1) * q) + 5 * t
product_few k n q t c =
    let d : k - 1 ≡ n = omega (arith, c) in
    let done : n * (4 * q) ≤ 140 * (n * q) + 5 * t = omega arith in
    rw d done

pub few : (op : Op) (ss : List Sort) (s : Sort) → owned op ≡ true → sort_of op ss ≡ Is s → AllHaveSignals ss → Few op ss s
unfolding sort_of
few ops.Not ss s o e all = few_not ss s e
few ops.And ss s o e all = few_truths ops.And 1 ss s e all (λ h. h)
few ops.Or ss s o e all = few_truths ops.Or 1 ss s e all (λ h. h)
few ops.Xor ss s o e all = few_truths ops.Xor 2 ss s e all (λ h. h)
few ops.Implies ss s o e all = few_truths ops.Implies 2 ss s e all (λ h. h)
few ops.Equal ss s o e all = equal_at ss s (alike ss s e) all
few ops.Distinct ss s o e all = distinct_at ss s (alike ss s e) all
few ops.Ite ss s o e all = few_choice ss s e
few ops.Concat ss s o e all = few_both ss s e
few (ops.Extract i j) ss s o e all = few_one (ops.Extract i j) (λ w. if nat_le j i && nat_lt i w then Is (sorts.Bits (i - j + 1)) else BadWidth) ss s e (λ w. omega arith)
few ops.BvNot ss s o e all = few_one ops.BvNot as_before ss s e (λ w. omega arith)
few ops.BvNeg ss s o e all = few_one ops.BvNeg as_before ss s e (λ w. omega arith)
few (ops.Repeat i) ss s o e all = few_one (ops.Repeat i) (λ w. if nat_le 1 i then up_to_64 (i * w) else BadWidth) ss s e (λ w. omega arith)
few (ops.ZeroExtend i) ss s o e all = few_one (ops.ZeroExtend i) (λ w. up_to_64 (w + i)) ss s e (λ w. omega arith)
few (ops.SignExtend i) ss s o e all = few_one (ops.SignExtend i) (λ w. up_to_64 (w + i)) ss s e (λ w. omega arith)
few (ops.RotateLeft i) ss s o e all = few_one (ops.RotateLeft i) as_before ss s e (λ w. omega arith)
few (ops.RotateRight i) ss s o e all = few_one (ops.RotateRight i) as_before ss s e (λ w. omega arith)
few ops.BvAnd ss s o e all = few_many ops.BvAnd refl ss s e all (λ k n w c h. omega arith)
few ops.BvOr ss s o e all = few_many ops.BvOr refl ss s e all (λ k n w c h. omega arith)
few ops.BvXor ss s o e all = few_many ops.BvXor refl ss s e all (λ k n w c h. omega arith)
few ops.BvAdd ss s o e all = few_many ops.BvAdd refl ss s e all (λ k n w c h. linear_few n w h)
few ops.BvMul ss s o e all = few_many ops.BvMul refl ss s e all (λ k n w c h. product_few k n (w * w) (w + n * w) c)
few ops.BvSub ss s o e all = few_two ops.BvSub sorts.Bits ss s e all (λ w h. omega (arith, h))
few ops.BvNand ss s o e all = few_two ops.BvNand sorts.Bits ss s e all (λ w h. omega (arith, h))
few ops.BvNor ss s o e all = few_two ops.BvNor sorts.Bits ss s e all (λ w h. omega (arith, h))
few ops.BvXnor ss s o e all = few_two ops.BvXnor sorts.Bits ss s e all (λ w h. omega (arith, h))
few ops.BvComp ss s o e all = few_two ops.BvComp (λ w. sorts.Bits 1) ss s e all (λ w h. omega (arith, h))
few ops.BvUdiv ss s o e all = few_two ops.BvUdiv sorts.Bits ss s e all (λ w h. omega (arith, square w h))
few ops.BvUrem ss s o e all = few_two ops.BvUrem sorts.Bits ss s e all (λ w h. omega (arith, square w h))
few ops.BvSdiv ss s o e all = few_two ops.BvSdiv sorts.Bits ss s e all (λ w h. omega (arith, square w h))
few ops.BvSrem ss s o e all = few_two ops.BvSrem sorts.Bits ss s e all (λ w h. omega (arith, square w h))
few ops.BvSmod ss s o e all = few_two ops.BvSmod sorts.Bits ss s e all (λ w h. omega (arith, h, square w h))
few ops.BvShl ss s o e all = few_two ops.BvShl sorts.Bits ss s e all (λ w h. omega (arith, square w h))
few ops.BvLshr ss s o e all = few_two ops.BvLshr sorts.Bits ss s e all (λ w h. omega (arith, square w h))
few ops.BvAshr ss s o e all = few_two ops.BvAshr sorts.Bits ss s e all (λ w h. omega (arith, square w h))
few ops.BvUlt ss s o e all = few_two ops.BvUlt (λ w. sorts.Bool) ss s e all (λ w h. omega (arith, h))
few ops.BvUle ss s o e all = few_two ops.BvUle (λ w. sorts.Bool) ss s e all (λ w h. omega (arith, h))
few ops.BvUgt ss s o e all = few_two ops.BvUgt (λ w. sorts.Bool) ss s e all (λ w h. omega (arith, h))
few ops.BvUge ss s o e all = few_two ops.BvUge (λ w. sorts.Bool) ss s e all (λ w h. omega (arith, h))
few ops.BvSlt ss s o e all = few_two ops.BvSlt (λ w. sorts.Bool) ss s e all (λ w h. omega (arith, h))
few ops.BvSle ss s o e all = few_two ops.BvSle (λ w. sorts.Bool) ss s e all (λ w h. omega (arith, h))
few ops.BvSgt ss s o e all = few_two ops.BvSgt (λ w. sorts.Bool) ss s e all (λ w h. omega (arith, h))
few ops.BvSge ss s o e all = few_two ops.BvSge (λ w. sorts.Bool) ss s e all (λ w h. omega (arith, h))
few _ ss s o e all = cc

-- an application weighs its sort's width or more

pub lightest : (s : Sort) → sort_width s ≤ sort_weight (Some s)
lightest sorts.Bool = omega arith
lightest sorts.Int = omega arith
lightest (sorts.Bits w) = omega arith

heavier : (s : Sort) → has_signals s ≡ true → sort_width s ≤ sort_weight (Some s) * sort_weight (Some s)
heavier s h = let own = lightest s in let one = at_least_one s h in omega (arith, own, square (sort_weight (Some s)) (omega (arith, own, one)))

two_or_more : (ss : List Sort) (s : Sort) → vectors ss ≡ Is s → 2 ≤ length ss
two_or_more [] s e = cc
two_or_more (sorts.Bool ∷ rest) s e = cc
two_or_more (sorts.Int ∷ rest) s e = cc
two_or_more (sorts.Bits w ∷ []) s e = cc
two_or_more (sorts.Bits w ∷ t ∷ rest) s e = omega arith

products : (n q w : ℕ) → 2 ≤ n → w ≤ q → w ≤ (n - 1) * q
products n q w h k =
    let m : 1 * q ≤ (n - 1) * q = mul-le-mul_right q (omega arith) in
    omega (arith, k, m)

pairs : (ss : List Sort) (s : Sort) → Alike ss s → sort_width s ≤ length ss * length ss
pairs ss s a =
    let some : 1 ≤ length ss = rw a.is (omega arith) in
    rw (← a.truth) (omega (arith, some, square (length ss) some))

-- no integer has signals
never_whole : (s : Sort) → has_signals s ≡ true → sorts.Int ≡ s → ⊥
never_whole sorts.Bool h e = cc
never_whole sorts.Int h e = cc
never_whole (sorts.Bits w) h e = cc

whole_one : (ss : List Sort) (s : Sort) → one_int ss ≡ Is s → sorts.Int ≡ s
whole_one [] s e = cc
whole_one (sorts.Int ∷ []) s e = cc
whole_one (sorts.Int ∷ t ∷ rest) s e = cc
whole_one (sorts.Bool ∷ rest) s e = cc
whole_one (sorts.Bits w ∷ rest) s e = cc

whole_pair : (ss : List Sort) (s : Sort) → two_ints ss ≡ Is s → sorts.Int ≡ s
whole_pair [] s e = cc
whole_pair (sorts.Bool ∷ rest) s e = cc
whole_pair (sorts.Bits w ∷ rest) s e = cc
whole_pair (sorts.Int ∷ []) s e = cc
whole_pair (sorts.Int ∷ sorts.Bool ∷ rest) s e = cc
whole_pair (sorts.Int ∷ sorts.Bits w ∷ rest) s e = cc
whole_pair (sorts.Int ∷ sorts.Int ∷ []) s e = cc
whole_pair (sorts.Int ∷ sorts.Int ∷ t ∷ rest) s e = cc

pub weighs : (op : Op) (ss : List Sort) (s : Sort) → sort_of op ss ≡ Is s → has_signals s ≡ true → sort_width s ≤ operator_weight op (length ss) (sort_weight (Some s))
unfolding sort_of
weighs ops.BvUdiv ss s e h = heavier s h
weighs ops.BvUrem ss s e h = heavier s h
weighs ops.BvSdiv ss s e h = heavier s h
weighs ops.BvSrem ss s e h = heavier s h
weighs ops.BvSmod ss s e h = heavier s h
weighs ops.BvShl ss s e h = heavier s h
weighs ops.BvLshr ss s e h = heavier s h
weighs ops.BvAshr ss s e h = heavier s h
weighs ops.BvMul ss s e h = products (length ss) (sort_weight (Some s) * sort_weight (Some s)) (sort_width s) (two_or_more ss s e) (heavier s h)
weighs ops.Distinct ss s e h = pairs ss s (alike ss s e)
weighs ops.Div ss s e h = absurd (never_whole s h (if_Is (nat_le 2 (length ss) && list_all (same_sort sorts.Int) ss) sorts.Int s e).1)
weighs ops.Mod ss s e h = absurd (never_whole s h (whole_pair ss s e))
weighs ops.Abs ss s e h = absurd (never_whole s h (whole_one ss s e))
weighs _ ss s e h = lightest s
