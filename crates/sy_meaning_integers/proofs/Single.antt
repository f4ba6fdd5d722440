-- The operators of one or two arguments.
use Rattle.std.specs.Prelude.{ℤ, false, List, [], ◌∷◌, map, slice_index_or as get_or, ◌≡◌, neg_ℤ, Option}
use Rattle.std.proofs.Common.{ap, ◌∙◌, subst}
use Rattle.sy_terms.specs.Values.{Val, Truth, Whole, Bits, whole}
use Rattle.sy_terms.specs.Integers as int
use Rattle.sy_terms.specs.Operators.{op_value, on_whole}
use Rattle.sy_terms.specs.Sorts.{sort_of, one_int}
use Rattle.sy_terms.specs.Theories.{fits, fits_128, one_fits, sort_of_value}
use Rattle.sy_terms.specs.Denoted.{IsSorted}
use Rattle.sy_terms.specs.declared.op.Op.TheVariants as ops
use Rattle.sy_terms.specs.declared.sort.Sort.{Sort}
use Rattle.sy_terms.specs.declared.sorts.Sorted.TheVariants.{Is}
use Rattle.sy_meaning_integers.specs.Found.{Found}

one-found : (f : ℤ → ℤ) (values : List Val) (s : Sort) (x : ℤ) (r : Option ℤ) → one_int (map sort_of_value values) ≡ Is s → x ≡ whole (get_or values 0 (Truth false)) → Found (fits_128 (f x)) (Whole (f x)) r → Found (one_fits f values) (on_whole f values) r
one-found f [] s x r e is found = cc
one-found f (Truth b ∷ rest) s x r e is found = cc
one-found f (Bits w n ∷ rest) s x r e is found = cc
one-found f (Whole z ∷ v ∷ rest) s x r e is found = cc
one-found f (Whole z ∷ []) s x r e is found = subst (λ (y : ℤ). Found (fits_128 (f y)) (Whole (f y)) r) is found

-- the negated number
pub neg-found : (values : List Val) (x : ℤ) (r : Option ℤ) → IsSorted ops.Neg values → x ≡ whole (get_or values 0 (Truth false)) → Found (fits_128 (neg_ℤ x)) (Whole (neg_ℤ x)) r → Found (fits ops.Neg values) (op_value ops.Neg values) r
unfolding fits op_value sort_of
neg-found values x r sorted is found = one-found neg_ℤ values sorted.sort x r sorted.fits is found

-- the absolute value
pub abs-found : (values : List Val) (x : ℤ) (r : Option ℤ) → IsSorted ops.Abs values → x ≡ whole (get_or values 0 (Truth false)) → Found (fits_128 (int.absolute x)) (Whole (int.absolute x)) r → Found (fits ops.Abs values) (op_value ops.Abs values) r
unfolding fits op_value sort_of
abs-found values x r sorted is found = one-found int.absolute values sorted.sort x r sorted.fits is found

mod-of-two : (values : List Val) (s : Sort) (x y : ℤ) → sort_of ops.Mod (map sort_of_value values) ≡ Is s → x ≡ whole (get_or values 0 (Truth false)) → y ≡ whole (get_or values 1 (Truth false)) → Whole (int.modulus x y) ≡ op_value ops.Mod values
unfolding op_value sort_of
mod-of-two [] s x y e is it = cc
mod-of-two (Truth b ∷ rest) s x y e is it = cc
mod-of-two (Bits w n ∷ rest) s x y e is it = cc
mod-of-two (Whole z ∷ []) s x y e is it = cc
mod-of-two (Whole z ∷ Truth b ∷ rest) s x y e is it = cc
mod-of-two (Whole z ∷ Bits w n ∷ rest) s x y e is it = cc
mod-of-two (Whole z ∷ Whole u ∷ v ∷ rest) s x y e is it = cc
mod-of-two (Whole z ∷ Whole u ∷ []) s x y e is it = ap (λ a. Whole (int.modulus a y)) is ∙ ap (λ b. Whole (int.modulus z b)) it

-- the remainder
pub mod-found : (values : List Val) (x y r : ℤ) → IsSorted ops.Mod values → x ≡ whole (get_or values 0 (Truth false)) → y ≡ whole (get_or values 1 (Truth false)) → r ≡ int.modulus x y → Whole r ≡ op_value ops.Mod values
mod-found values x y r sorted is it gives = ap Whole gives ∙ mod-of-two values sorted.sort x y sorted.fits is it
