-- An operator's value has a sort with signals where its arguments have.
use Rattle.std.specs.Prelude.{ℕ, ◌+◌, ◌*◌, ◌-◌, ◌≤◌, ◌≡◌, Bool, true, false, ◌&&◌, nat_le, nat_lt, nat_eq, List, [], ◌∷◌, refl, Some, None, length, if◌then◌else◌, All}
use Rattle.std.specs.List.{list_all}
use Rattle.std.proofs.Common.{arith, zero, suc}
use Rattle.std.proofs.lemmas.List.Elements.{All-head, All-tail}
use Rattle.std.proofs.lemmas.Bool.Decides.{nat_tests}
use Rattle.sy_terms.specs.Sorts.{sort_of, same_sort, each_is, all_alike, choice, by_width, one_vector, two_vectors, vectors, up_to_64, two_joined, as_before}
use Rattle.sy_terms.specs.declared.op.Op.{Op}
use Rattle.sy_terms.specs.declared.op.Op.TheVariants as ops
use Rattle.sy_terms.specs.declared.sort.Sort.{Sort}
use Rattle.sy_terms.specs.declared.sort.Sort.TheVariants as sorts
use Rattle.sy_terms.specs.declared.sorts.Sorted.{Sorted}
use Rattle.sy_terms.specs.declared.sorts.Sorted.TheVariants.{Is, Mismatch, BadWidth}
use Rattle.sy_meaning_words.specs.Vectors.{owned}
use Rattle.sy_bits_operators.specs.Signals.{has_signals, AllHaveSignals}

-- what a sort with signals may be
abbrev Has : Sort → Type 0
Has s = has_signals s ≡ true

if_Is : (b : Bool) (x s : Sort) → (if b then Is x else Mismatch) ≡ Is s → Has x → Has s
if_Is true x s e h = cc
if_Is false x s e h = cc

if_fits : (b : Bool) (x s : Sort) → (if b then Is x else BadWidth) ≡ Is s → (b ≡ true → Has x) → Has s
if_fits true x s e h = let k = h refl in cc
if_fits false x s e h = cc

is_same : (x s : Sort) → Is x ≡ Is s → Has x → Has s
is_same x s e h = cc

truths : (least : ℕ) (sort : Sort) (ss : List Sort) (s : Sort) → each_is least sort ss sorts.Bool ≡ Is s → Has s
truths least sort ss s e = if_Is (nat_le least (length ss) && list_all (same_sort sort) ss) sorts.Bool s e refl

alike : (ss : List Sort) (s : Sort) → all_alike ss ≡ Is s → Has s
alike [] s e = cc
alike (t ∷ rest) s e = if_Is (nat_le 1 (length rest) && list_all (same_sort t) rest) sorts.Bool s e refl

first_of_all : (t : Sort) (rest : List Sort) → AllHaveSignals (t ∷ rest) → Has t
first_of_all t rest all = All-head (λ sort. has_signals sort ≡ true) t rest all

chosen : (ss : List Sort) (s : Sort) → choice ss ≡ Is s → AllHaveSignals ss → Has s
chosen [] s e all = cc
chosen (sorts.Int ∷ rest) s e all = cc
chosen (sorts.Bits w ∷ rest) s e all = cc
chosen (sorts.Bool ∷ []) s e all = cc
chosen (sorts.Bool ∷ x ∷ []) s e all = cc
chosen (sorts.Bool ∷ x ∷ y ∷ z ∷ rest) s e all = cc
chosen (sorts.Bool ∷ x ∷ y ∷ []) s e all = if_Is (same_sort x y) x s e (first_of_all x (y ∷ []) (All-tail (λ sort. has_signals sort ≡ true) sorts.Bool (x ∷ y ∷ []) all))

many : (ss : List Sort) (s : Sort) → vectors ss ≡ Is s → AllHaveSignals ss → Has s
many [] s e all = cc
many (sorts.Bool ∷ rest) s e all = cc
many (sorts.Int ∷ rest) s e all = cc
many (sorts.Bits w ∷ rest) s e all = if_Is (nat_le 1 (length rest) && list_all (same_sort (sorts.Bits w)) rest) (sorts.Bits w) s e (first_of_all (sorts.Bits w) rest all)

-- an operator on one vector, or on two of one width
one : (value : ℕ → Sorted) (ss : List Sort) (s : Sort) → one_vector value ss ≡ Is s → AllHaveSignals ss → ((w : ℕ) → Has (sorts.Bits w) → value w ≡ Is s → Has s) → Has s
one value [] s e all keeps = cc
one value (sorts.Bool ∷ rest) s e all keeps = cc
one value (sorts.Int ∷ rest) s e all keeps = cc
one value (sorts.Bits w ∷ t ∷ rest) s e all keeps = cc
one value (sorts.Bits w ∷ []) s e all keeps = keeps w (first_of_all (sorts.Bits w) [] all) e

if_width : (b : Bool) (value : ℕ → Sorted) (w : ℕ) (s : Sort) → by_width value (if b then Some w else None) ≡ Is s → value w ≡ Is s
if_width true value w s e = e
if_width false value w s e = cc

two : (value : ℕ → Sorted) (ss : List Sort) (s : Sort) → two_vectors value ss ≡ Is s → AllHaveSignals ss → ((w : ℕ) → Has (sorts.Bits w) → value w ≡ Is s → Has s) → Has s
two value [] s e all keeps = cc
two value (sorts.Bool ∷ rest) s e all keeps = cc
two value (sorts.Int ∷ rest) s e all keeps = cc
two value (sorts.Bits w ∷ []) s e all keeps = cc
two value (sorts.Bits w ∷ sorts.Bool ∷ rest) s e all keeps = cc
two value (sorts.Bits w ∷ sorts.Int ∷ rest) s e all keeps = cc
two value (sorts.Bits w ∷ sorts.Bits v ∷ t ∷ rest) s e all keeps = cc
two value (sorts.Bits w ∷ sorts.Bits v ∷ []) s e all keeps =
    keeps v (first_of_all (sorts.Bits v) [] (All-tail (λ sort. has_signals sort ≡ true) (sorts.Bits w) (sorts.Bits v ∷ []) all)) (if_width (nat_eq w v) value v s e)

before : (w : ℕ) (s : Sort) → Has (sorts.Bits w) → as_before w ≡ Is s → Has s
before w s h e = is_same (sorts.Bits w) s e h

sized : (w : ℕ) → 1 ≤ w → nat_le w 64 ≡ true → Has (sorts.Bits w)
sized w h e = grind (arith, nat_tests)

wide : (w : ℕ) → Has (sorts.Bits w) → (1 ≤ w) × (w ≤ 64)
wide w h = grind (arith, nat_tests)

some_bits : (i j w : ℕ) (s : Sort) → Has (sorts.Bits w) → (if nat_le j i && nat_lt i w then Is (sorts.Bits (i - j + 1)) else BadWidth) ≡ Is s → Has s
some_bits i j w s h e =
    let size = wide w h in
    if_fits (nat_le j i && nat_lt i w) (sorts.Bits (i - j + 1)) s e (λ fit. sized (i - j + 1) (omega arith) (grind (arith, nat_tests, size.1)))

copies : (i w : ℕ) (s : Sort) → Has (sorts.Bits w) → (if nat_le 1 i then up_to_64 (i * w) else BadWidth) ≡ Is s → Has s
copies i w s h e = copied (nat_le 1 i) refl e
  where
    positive : (i w : ℕ) → 1 ≤ i → 1 ≤ w → 1 ≤ i * w
    positive (suc i) (suc w) h k = omega arith
    positive zero w h k = absurd (omega arith)
    positive (suc i) zero h k = absurd (omega arith)

    copied : (b : Bool) → nat_le 1 i ≡ b → (if b then up_to_64 (i * w) else BadWidth) ≡ Is s → Has s
    copied true k e = if_fits (nat_le (i * w) 64) (sorts.Bits (i * w)) s e (λ fit. sized (i * w) (positive i w (grind (arith, nat_tests)) (wide w h).0) fit)
    copied false k e = cc

more_bits : (i w : ℕ) (s : Sort) → Has (sorts.Bits w) → up_to_64 (w + i) ≡ Is s → Has s
more_bits i w s h e =
    let size = wide w h in
    if_fits (nat_le (w + i) 64) (sorts.Bits (w + i)) s e (λ fit. sized (w + i) (omega (arith, size.0)) fit)

both : (ss : List Sort) (s : Sort) → two_joined ss ≡ Is s → AllHaveSignals ss → Has s
both [] s e all = cc
both (sorts.Bool ∷ rest) s e all = cc
both (sorts.Int ∷ rest) s e all = cc
both (sorts.Bits w ∷ []) s e all = cc
both (sorts.Bits w ∷ sorts.Bool ∷ rest) s e all = cc
both (sorts.Bits w ∷ sorts.Int ∷ rest) s e all = cc
both (sorts.Bits w ∷ sorts.Bits v ∷ t ∷ rest) s e all = cc
both (sorts.Bits w ∷ sorts.Bits v ∷ []) s e all = more_bits v w s (first_of_all (sorts.Bits w) (sorts.Bits v ∷ []) all) e

negation : (ss : List Sort) (s : Sort) → sort_of ops.Not ss ≡ Is s → Has s
unfolding sort_of
negation [] s e = cc
negation (sorts.Int ∷ rest) s e = cc
negation (sorts.Bits w ∷ rest) s e = cc
negation (sorts.Bool ∷ x ∷ rest) s e = cc
negation (sorts.Bool ∷ []) s e = is_same sorts.Bool s e refl

-- an operator on vectors of which the value has the same width
same_one : (ss : List Sort) (s : Sort) → one_vector as_before ss ≡ Is s → AllHaveSignals ss → Has s
same_one ss s e all = one as_before ss s e all (λ w h k. before w s h k)

same_two : (ss : List Sort) (s : Sort) → two_vectors as_before ss ≡ Is s → AllHaveSignals ss → Has s
same_two ss s e all = two as_before ss s e all (λ w h k. before w s h k)

order : (ss : List Sort) (s : Sort) → two_vectors (λ w. Is sorts.Bool) ss ≡ Is s → AllHaveSignals ss → Has s
order ss s e all = two (λ w. Is sorts.Bool) ss s e all (λ w h k. is_same sorts.Bool s k refl)

pub kept : (op : Op) (ss : List Sort) (s : Sort) → owned op ≡ true → sort_of op ss ≡ Is s → AllHaveSignals ss → has_signals s ≡ true
unfolding sort_of
kept ops.Not ss s o e all = negation ss s e
kept ops.And ss s o e all = truths 1 sorts.Bool ss s e
kept ops.Or ss s o e all = truths 1 sorts.Bool ss s e
kept ops.Xor ss s o e all = truths 2 sorts.Bool ss s e
kept ops.Implies ss s o e all = truths 2 sorts.Bool ss s e
kept ops.Equal ss s o e all = alike ss s e
kept ops.Distinct ss s o e all = alike ss s e
kept ops.Ite ss s o e all = chosen ss s e all
kept ops.Concat ss s o e all = both ss s e all
kept (ops.Extract i j) ss s o e all = one (λ w. if nat_le j i && nat_lt i w then Is (sorts.Bits (i - j + 1)) else BadWidth) ss s e all (λ w h k. some_bits i j w s h k)
kept ops.BvNot ss s o e all = same_one ss s e all
kept ops.BvNeg ss s o e all = same_one ss s e all
kept ops.BvAnd ss s o e all = many ss s e all
kept ops.BvOr ss s o e all = many ss s e all
kept ops.BvXor ss s o e all = many ss s e all
kept ops.BvAdd ss s o e all = many ss s e all
kept ops.BvMul ss s o e all = many ss s e all
kept ops.BvComp ss s o e all = two (λ w. Is (sorts.Bits 1)) ss s e all (λ w h k. is_same (sorts.Bits 1) s k refl)
kept (ops.Repeat i) ss s o e all = one (λ w. if nat_le 1 i then up_to_64 (i * w) else BadWidth) ss s e all (λ w h k. copies i w s h k)
kept (ops.ZeroExtend i) ss s o e all = one (λ w. up_to_64 (w + i)) ss s e all (λ w h k. more_bits i w s h k)
kept (ops.SignExtend i) ss s o e all = one (λ w. up_to_64 (w + i)) ss s e all (λ w h k. more_bits i w s h k)
kept (ops.RotateLeft i) ss s o e all = same_one ss s e all
kept (ops.RotateRight i) ss s o e all = same_one ss s e all
kept ops.BvSub ss s o e all = same_two ss s e all
kept ops.BvNand ss s o e all = same_two ss s e all
kept ops.BvNor ss s o e all = same_two ss s e all
kept ops.BvXnor ss s o e all = same_two ss s e all
kept ops.BvUdiv ss s o e all = same_two ss s e all
kept ops.BvUrem ss s o e all = same_two ss s e all
kept ops.BvSdiv ss s o e all = same_two ss s e all
kept ops.BvSrem ss s o e all = same_two ss s e all
kept ops.BvSmod ss s o e all = same_two ss s e all
kept ops.BvShl ss s o e all = same_two ss s e all
kept ops.BvLshr ss s o e all = same_two ss s e all
kept ops.BvAshr ss s o e all = same_two ss s e all
kept ops.BvUlt ss s o e all = order ss s e all
kept ops.BvUle ss s o e all = order ss s e all
kept ops.BvUgt ss s o e all = order ss s e all
kept ops.BvUge ss s o e all = order ss s e all
kept ops.BvSlt ss s o e all = order ss s e all
kept ops.BvSle ss s o e all = order ss s e all
kept ops.BvSgt ss s o e all = order ss s e all
kept ops.BvSge ss s o e all = order ss s e all
kept _ ss s o e all = cc
