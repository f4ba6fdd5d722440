-- Lists of values: folds of tests, what stands for a list with one value more, equality.
use Rattle.std.specs.Prelude.{ℕ, ◌+◌, ◌<◌, length, slice_index_or as get_or, Bool, true, false, not, cond, ◌&&◌, ◌||◌, List, [], ◌∷◌, ◌++◌, map, ◌≡◌, refl, nat_eq, nat_le, if◌then◌else◌}
use Rattle.std.proofs.Math.Bool.{beq}
use Rattle.std.specs.List.{list_any, list_all}
use Rattle.std.proofs.Common.{drop, add-one, ap, ◌∙◌, sym}
use Rattle.std.proofs.lemmas.Bool.{eqb-true}
use Rattle.std.proofs.Math.Seq.{drop-cons}
use Rattle.std.proofs.lemmas.Bool.Decides.{Decides-int_eq}
use Rattle.sy_terms.specs.Values.{Val, Truth, Whole, Bits, truth, same, neighbours, to_all, from_left}
use Rattle.sy_terms.specs.Sorts.{sort_of, same_sort, each_is}
use Rattle.sy_terms.specs.Theories.{sort_of_value}
use Rattle.sy_terms.specs.declared.sort.Sort.TheVariants as sorts
use Rattle.sy_terms.specs.Operators.{implied, op_value}
use Rattle.sy_terms.specs.declared.op.Op.TheVariants as ops
use Rattle.sy_terms.specs.declared.sort.Sort.{Sort}
use Rattle.sy_terms.specs.declared.sorts.Sorted.TheVariants.{Is, Mismatch}

pub list_any-map : {X Y : Type 0} (p : X → Bool) (h : Y → X) (ys : List Y) → list_any p (map h ys) ≡ list_any (λ y. p (h y)) ys
list_any-map p h [] = refl
list_any-map p h (y ∷ ys) = ap (λ b. p (h y) || b) (list_any-map p h ys)

pub to_all-map : {Y : Type 0} (related : Val → Val → Bool) (x : Val) (h : Y → Val) (ys : List Y) → to_all related x (map h ys) ≡ list_all (λ y. related x (h y)) ys
to_all-map related x h [] = refl
to_all-map related x h (y ∷ ys) = ap (λ b. related x (h y) && b) (to_all-map related x h ys)

pub map-last : {X Y : Type 0} (h : Y → X) (ys : List Y) (last : Y) → map h (ys ++ last ∷ []) ≡ map h ys ++ h last ∷ []
map-last h [] last = refl
map-last h (y ∷ ys) last = ap (λ xs. h y ∷ xs) (map-last h ys last)

both_true : (a b : Bool) → (a && b) ≡ true → (a ≡ true) × (b ≡ true)
both_true true b e = (refl, e)
both_true false b e = cc

-- values that are the same are equal
pub same-is : (x y : Val) → same x y ≡ true → x ≡ y
same-is (Truth true) (Truth true) e = refl
same-is (Truth true) (Truth false) e = cc
same-is (Truth false) (Truth true) e = cc
same-is (Truth false) (Truth false) e = refl
same-is (Truth b) (Whole n) e = cc
same-is (Truth b) (Bits w n) e = cc
same-is (Whole m) (Truth b) e = cc
same-is (Whole m) (Whole n) e = ap Whole ((Decides-int_eq m n).0 e)
same-is (Whole m) (Bits w n) e = cc
same-is (Bits v m) (Truth b) e = cc
same-is (Bits v m) (Whole n) e = cc
same-is (Bits v m) (Bits w n) e =
    let both = both_true (nat_eq v w) (nat_eq m n) e in
    let widths = eqb-true v w both.0 in
    let numbers = eqb-true m n both.1 in
    cc

and-step : (a b c : Bool) → (a ≡ true → b ≡ c) → (a && b) ≡ (a && c)
and-step true b c h = h refl
and-step false b c h = refl

-- neighbours are the same where all are the same as the first
pub neighbours-same : (x : Val) (rest : List Val) → neighbours same (x ∷ rest) ≡ list_all (same x) rest
neighbours-same x [] = refl
neighbours-same x (y ∷ rest) =
    and-step (same x y) (neighbours same (y ∷ rest)) (list_all (same x) rest)
    (λ e. neighbours-same y rest ∙ ap (λ v. list_all (same v) rest) (sym (same-is x y e)))

or-false : (a : Bool) → a ≡ (a || false)
or-false true = refl
or-false false = refl

or-move : (a b c : Bool) → (not a || (b || not c)) ≡ (b || not (a && c))
or-move true b c = refl
or-move false true c = refl
or-move false false c = refl

-- an implication holds where its conclusion does or a premise does not
pub implied-last : (premises : List Val) (conclusion : Val) → implied (premises ++ conclusion ∷ []) ≡ (truth conclusion || not (list_all truth premises))
implied-last [] conclusion = or-false (truth conclusion)
implied-last (x ∷ []) conclusion =
    ap (λ b. not (truth x) || b) (or-false (truth conclusion)) ∙ or-move (truth x) (truth conclusion) true
implied-last (x ∷ y ∷ rest) conclusion =
    ap (λ b. not (truth x) || b) (implied-last (y ∷ rest) conclusion) ∙ or-move (truth x) (truth conclusion) (list_all truth (y ∷ rest))

or-true : (a b c : Bool) → c ≡ (a || b) → a ≡ true → true ≡ c
or-true true b c e h = sym e
or-true false b c e h = cc

or-else : (a b c : Bool) → c ≡ (a || b) → a ≡ false → b ≡ c
or-else true b c e h = cc
or-else false b c e h = sym e

-- by the last value, where it is true
pub implied-then : {Y : Type 0} (h : Y → Val) (ys premises : List Y) (conclusion : Y) → ys ≡ premises ++ conclusion ∷ [] → truth (h conclusion) ≡ true → true ≡ implied (map h ys)
implied-then h ys premises conclusion e found =
    let is : implied (map h ys) ≡ (truth (h conclusion) || not (list_all truth (map h premises))) = rw e (rw map-last (implied-last (map h premises) (h conclusion))) in
    or-true (truth (h conclusion)) (not (list_all truth (map h premises))) (implied (map h ys)) is found

-- and where it is false
pub implied-else : {Y : Type 0} (h : Y → Val) (ys premises : List Y) (conclusion : Y) → ys ≡ premises ++ conclusion ∷ [] → truth (h conclusion) ≡ false → not (list_all truth (map h premises)) ≡ implied (map h ys)
implied-else h ys premises conclusion e found =
    let is : implied (map h ys) ≡ (truth (h conclusion) || not (list_all truth (map h premises))) = rw e (rw map-last (implied-last (map h premises) (h conclusion))) in
    or-else (truth (h conclusion)) (not (list_all truth (map h premises))) (implied (map h ys)) is found

-- whether an odd number of them, with the one before, is true
abbrev pub odd_from : {Y : Type 0} → (Y → Bool) → Bool → List Y → Bool
odd_from test odd [] = odd
odd_from test odd (y ∷ ys) = odd_from test (not (same (Truth odd) (Truth (test y)))) ys

pub odd_from-step : {Y : Type 0} (test : Y → Bool) (odd : Bool) (ys : List Y) (i : ℕ) (y : Y) (found next : Bool) → i < length ys → y ≡ get_or ys i y → found ≡ test y → next ≡ not (same (Truth odd) (Truth found)) → odd_from test odd (drop i ys) ≡ odd_from test next (drop (i + 1) ys)
odd_from-step test odd ys i y found next less is same step = rw (add-one, drop-cons ys i y less, ← is, step, same)

pub beq-same : (a b : Bool) → not (beq a b) ≡ not (same (Truth a) (Truth b))
beq-same true true = refl
beq-same true false = refl
beq-same false true = refl
beq-same false false = refl

-- a truth value is what it says
pub truth-is : (v : Val) → same_sort sorts.Bool (sort_of_value v) ≡ true → v ≡ Truth (truth v)
truth-is (Truth b) e = refl
truth-is (Whole n) e = cc
truth-is (Bits w n) e = cc

-- what `xor` from the left gives is whether an odd number is true
from_left-odd : {Y : Type 0} (h : Y → Val) (odd : Bool) (ys : List Y) → list_all (same_sort sorts.Bool) (map sort_of_value (map h ys)) ≡ true → from_left (λ x y. Truth (not (same x y))) (Truth odd ∷ map h ys) ≡ Truth (odd_from (λ y. truth (h y)) odd ys)
from_left-odd h odd [] each = refl
from_left-odd h odd (y ∷ ys) each =
    let both = both_true (same_sort sorts.Bool (sort_of_value (h y))) (list_all (same_sort sorts.Bool) (map sort_of_value (map h ys))) each in
    ap (λ v. from_left (λ x y. Truth (not (same x y))) (Truth (not (same (Truth odd) v)) ∷ map h ys)) (truth-is (h y) both.0)
    ∙ from_left-odd h (not (same (Truth odd) (Truth (truth (h y))))) ys both.1

if_Is : (b : Bool) (x y : Sort) → (if b then Is x else Mismatch) ≡ Is y → b ≡ true
if_Is true x y e = refl
if_Is false x y e = cc

-- where so many arguments of a sort are asked for, each has it
pub each_is-all : (least : ℕ) (sort value found : Sort) (sorts : List Sort) → each_is least sort sorts value ≡ Is found → (nat_le least (length sorts) ≡ true) × (list_all (same_sort sort) sorts ≡ true)
each_is-all least sort value found sorts e = both_true (nat_le least (length sorts)) (list_all (same_sort sort) sorts) (if_Is (nat_le least (length sorts) && list_all (same_sort sort) sorts) value found e)

not-twice : (b : Bool) → b ≡ not (cond false b (not b))
not-twice true = refl
not-twice false = refl

-- the value of `xor`
pub xor-odd : {Y : Type 0} (h : Y → Val) (ys : List Y) (s : Sort) → sort_of ops.Xor (map sort_of_value (map h ys)) ≡ Is s → Truth (odd_from (λ y. truth (h y)) false ys) ≡ op_value ops.Xor (map h ys)
unfolding sort_of op_value
xor-odd h [] s e = cc
xor-odd h (y ∷ ys) s e =
    let each = each_is-all 2 sorts.Bool sorts.Bool s (map sort_of_value (map h (y ∷ ys))) e in
    let both = both_true (same_sort sorts.Bool (sort_of_value (h y))) (list_all (same_sort sorts.Bool) (map sort_of_value (map h ys))) each.1 in
    sym
    (ap (λ v. from_left (λ x y. Truth (not (same x y))) (v ∷ map h ys)) (truth-is (h y) both.0)
    ∙ from_left-odd h (truth (h y)) ys both.1
    ∙ ap (λ b. Truth (odd_from (λ y. truth (h y)) b ys)) (not-twice (truth (h y))))
