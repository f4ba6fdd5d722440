-- Lists of three.
use Rattle.std.specs.Prelude.{Bool, true, false, cond, List, [], ◌∷◌, map, ◌≡◌, refl, length, slice_index_or as get_or}
use Rattle.std.proofs.Common.{arith, sym, ap, ◌∙◌}
use Rattle.sy_terms.specs.Values.{Val, truth}
use Rattle.sy_terms.specs.Operators.{op_value}
use Rattle.sy_terms.specs.Sorts.{sort_of}
use Rattle.sy_terms.specs.Theories.{valid, sort_of_value}
use Rattle.sy_terms.specs.Denoted.{IsSorted}
use Rattle.std.proofs.lemmas.List.{length-map}
use Rattle.sy_terms.specs.declared.sort.Sort.{Sort}
use Rattle.sy_terms.specs.declared.sort.Sort.TheVariants as sorts
use Rattle.sy_terms.specs.declared.sorts.Sorted.TheVariants.{Is}
use Rattle.sy_terms.specs.declared.op.Op.TheVariants as ops

-- a choice has three arguments
pub ite-three : (ss : List Sort) (s : Sort) → sort_of ops.Ite ss ≡ Is s → length ss ≡ 3
unfolding sort_of
ite-three [] s e = cc
ite-three (sorts.Int ∷ rest) s e = cc
ite-three (sorts.Bits w ∷ rest) s e = cc
ite-three (sorts.Bool ∷ []) s e = cc
ite-three (sorts.Bool ∷ x ∷ []) s e = cc
ite-three (sorts.Bool ∷ x ∷ y ∷ z ∷ rest) s e = cc
ite-three (sorts.Bool ∷ x ∷ y ∷ []) s e = refl

pub ite-length : {Y : Type 0} (h : Y → Val) (ys : List Y) → IsSorted ops.Ite (map h ys) → length ys ≡ 3
ite-length h ys sorted =
    omega (arith, ite-three (map sort_of_value (map h ys)) sorted.sort sorted.fits, length-map ys h, length-map (map h ys) sort_of_value)

cond-true : {X : Type 0} (b : Bool) (x y : X) → b ≡ true → x ≡ cond b x y
cond-true true x y e = refl
cond-true false x y e = cc

cond-false : {X : Type 0} (b : Bool) (x y : X) → b ≡ false → y ≡ cond b x y
cond-false true x y e = cc
cond-false false x y e = refl

-- the value and its validity
abbrev Chosen : List Val → Val → Type 0
Chosen values v = (v ≡ op_value ops.Ite values) × (valid v ≡ true)

-- the choice, where the condition is true
pub ite-then : {Y : Type 0} (h : Y → Val) (ys : List Y) (a b : Y) → IsSorted ops.Ite (map h ys) → a ≡ get_or ys 0 a → b ≡ get_or ys 1 b → truth (h a) ≡ true → Chosen (map h ys) (h b)
unfolding op_value
ite-then h [] a b sorted ia ib holds = absurd (omega (arith, ite-length h [] sorted))
ite-then h (x ∷ []) a b sorted ia ib holds = absurd (omega (arith, ite-length h (x ∷ []) sorted))
ite-then h (x ∷ y ∷ []) a b sorted ia ib holds = absurd (omega (arith, ite-length h (x ∷ y ∷ []) sorted))
ite-then h (x ∷ y ∷ z ∷ u ∷ ys) a b sorted ia ib holds = absurd (omega (arith, ite-length h (x ∷ y ∷ z ∷ u ∷ ys) sorted))
ite-then h (x ∷ y ∷ z ∷ []) a b sorted ia ib holds =
    (ap h ib ∙ cond-true (truth (h x)) (h y) (h z) (ap (λ v. truth (h v)) (sym ia) ∙ holds), ap (λ v. valid (h v)) ib ∙ sorted.each 1 (h y) (omega arith))

-- and where it is false
pub ite-else : {Y : Type 0} (h : Y → Val) (ys : List Y) (a b : Y) → IsSorted ops.Ite (map h ys) → a ≡ get_or ys 0 a → b ≡ get_or ys 2 b → truth (h a) ≡ false → Chosen (map h ys) (h b)
unfolding op_value
ite-else h [] a b sorted ia ib fails = absurd (omega (arith, ite-length h [] sorted))
ite-else h (x ∷ []) a b sorted ia ib fails = absurd (omega (arith, ite-length h (x ∷ []) sorted))
ite-else h (x ∷ y ∷ []) a b sorted ia ib fails = absurd (omega (arith, ite-length h (x ∷ y ∷ []) sorted))
ite-else h (x ∷ y ∷ z ∷ u ∷ ys) a b sorted ia ib fails = absurd (omega (arith, ite-length h (x ∷ y ∷ z ∷ u ∷ ys) sorted))
ite-else h (x ∷ y ∷ z ∷ []) a b sorted ia ib fails =
    (ap h ib ∙ cond-false (truth (h x)) (h y) (h z) (ap (λ v. truth (h v)) (sym ia) ∙ fails), ap (λ v. valid (h v)) ib ∙ sorted.each 2 (h z) (omega arith))
