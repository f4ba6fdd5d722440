-- An operator taken from the left, step by step.
use Rattle.std.specs.Prelude.{◌≡◌, ◌≤◌, ◌<◌, ◌+◌, ℕ, zero, suc, true, List, [], ◌∷◌, refl, length, nat_eq}
use Rattle.std.specs.List.{list_all}
use Rattle.std.proofs.Common.{arith, ap, sym, ◌∙◌, drop, get_or}
use Rattle.std.proofs.lemmas.Bool.{eqb-true}
use Rattle.std.proofs.lemmas.List.{at_drop_more}
use Rattle.sy_terms.specs.Values.{Val}
use Rattle.sy_terms.specs.Sorts.{same_sort}
use Rattle.sy_terms.specs.Theories.{sort_of_value}
use Rattle.sy_terms.specs.Denoted.{val_of, vals_of, sorts_of}
use Rattle.sy_terms.specs.declared.sort.Sort.{Sort}
use Rattle.sy_terms.specs.declared.sort.Sort.TheVariants.{Bool as Truths, Int, Bits}
use Rattle.sy_terms.specs.declared.sort.Value.{Value}
use Rattle.sy_meaning_words.specs.declared.word.Word.{Word}
use Rattle.sy_terms.specs.Operators.{op_value}
use Rattle.sy_terms.specs.declared.op.Op.{Op}
use Rattle.sy_terms.specs.declared.op.Op.TheVariants as ops
use Rattle.sy_meaning_words.specs.Vectors.{vector, in_vectors, is_bits, is_folded, TakesSorts, TakesMany}
use Rattle.sy_meaning_words.proofs.Shapes.{both_true, many, folded_takes}

pub fold_step : (op : Op) (x y : Val) (rest : List Val) → is_folded op ≡ true → op_value op (x ∷ y ∷ rest) ≡ op_value op (op_value op (x ∷ y ∷ []) ∷ rest)
unfolding op_value
fold_step ops.BvAnd x y rest f = refl
fold_step ops.BvOr x y rest f = refl
fold_step ops.BvXor x y rest f = refl
fold_step ops.BvAdd x y rest f = refl
fold_step ops.BvMul x y rest f = refl
fold_step _ x y rest f = absurd cc

pub fold_end : (op : Op) (x : Val) → is_folded op ≡ true → op_value op (x ∷ []) ≡ x
unfolding op_value
fold_end ops.BvAnd x f = refl
fold_end ops.BvOr x f = refl
fold_end ops.BvXor x f = refl
fold_end ops.BvAdd x f = refl
fold_end ops.BvMul x f = refl
fold_end _ x f = absurd cc

-- its value has the first vector's width
pub folded_sort : (op : Op) (s t : Word) → is_folded op ≡ true → sort_of_value (op_value op (vector s ∷ vector t ∷ [])) ≡ Bits s.width
unfolding op_value
folded_sort ops.BvAnd s t f = refl
folded_sort ops.BvOr s t f = refl
folded_sort ops.BvXor s t f = refl
folded_sort ops.BvAdd s t f = refl
folded_sort ops.BvMul s t f = refl
folded_sort _ s t f = absurd cc

same_bits : (w : ℕ) (s : Sort) → same_sort (Bits w) s ≡ true → s ≡ Bits w
same_bits w (Bits v) h = ap Bits (sym (eqb-true w v h))
same_bits w Truths h = cc
same_bits w Int h = cc

each_at : (w : ℕ) (vs : List (Value Word)) (i : ℕ) (d : Value Word) → list_all (same_sort (Bits w)) (sorts_of vector vs) ≡ true → i < length vs → sort_of_value (val_of vector (get_or vs i d)) ≡ Bits w
each_at w [] i d h k = absurd (omega arith)
each_at w (v ∷ vs) zero d h k = same_bits w (sort_of_value (val_of vector v)) (both_true (same_sort (Bits w) (sort_of_value (val_of vector v))) (list_all (same_sort (Bits w)) (sorts_of vector vs)) h).0
each_at w (v ∷ vs) (suc i) d h k = each_at w vs i d (both_true (same_sort (Bits w) (sort_of_value (val_of vector v))) (list_all (same_sort (Bits w)) (sorts_of vector vs)) h).1 (omega arith)

-- each later vector has the first one's width
pub rest_sort : (op : Op) (w : ℕ) (rest : List (Value Word)) (i : ℕ) (x : Value Word) → TakesMany op (Bits w ∷ sorts_of vector rest) → i < length rest → x ≡ get_or rest i x → sort_of_value (val_of vector x) ≡ Bits w
rest_sort op w rest i x takes h e =
    let both = both_true (nat_eq takes.width w) (list_all (same_sort (Bits takes.width)) (sorts_of vector rest)) takes.same in
    let widths = eqb-true takes.width w both.0 in
    ap (λ (v : Value Word). sort_of_value (val_of vector v)) e ∙ each_at takes.width rest i x both.1 h ∙ ap Bits widths

-- two words of the values' widths
pub widths_of : (s t : Word) (a b : Value Word) (w : ℕ) → vector s ≡ val_of vector a → vector t ≡ val_of vector b → sort_of_value (val_of vector a) ≡ Bits w → sort_of_value (val_of vector b) ≡ Bits w → s.width ≡ t.width
widths_of s t a b w e f g h =
    let left = ap sort_of_value e in
    let right = ap sort_of_value f in
    cc

pub takes_two : (op : Op) (v w : ℕ) → is_folded op ≡ true → v ≡ w → TakesSorts op (Bits v ∷ Bits w ∷ [])
takes_two op v w f e = rw e (folded_takes op w f)

-- one step of the loop
pub fold_next : (op : Op) (total next made : Value Word) (s t : Word) (rest : List (Value Word)) (i : ℕ) (whole : Val) → is_folded op ≡ true → vector s ≡ val_of vector total → vector t ≡ val_of vector next → next ≡ get_or rest i next → i < length rest → val_of vector made ≡ op_value op (vector s ∷ vector t ∷ []) → op_value op (val_of vector total ∷ vals_of vector (drop i rest)) ≡ whole → op_value op (val_of vector made ∷ vals_of vector (drop (i + 1) rest)) ≡ whole
fold_next op total next made s t rest i whole f es et en within em before =
    let more = at_drop_more (λ (r : List (Value Word)). op_value op (val_of vector total ∷ vals_of vector r)) rest i next within in
    let step = fold_step op (vector s) (vector t) (vals_of vector (drop (i + 1) rest)) f in
    rw (em, ← step, es, et, en, ← more) before

pub many_values : (op : Op) (vs : List (Value Word)) → 3 ≤ length vs → in_vectors op ≡ true → TakesSorts op (sorts_of vector vs) → TakesMany op (sorts_of vector vs)
many_values op [] n o h = absurd (omega arith)
many_values op (s ∷ []) n o h = absurd (omega arith)
many_values op (s ∷ t ∷ []) n o h = absurd (omega arith)
many_values op (s ∷ t ∷ u ∷ rest) n o h = many op (sort_of_value (val_of vector s)) (sort_of_value (val_of vector t)) (sort_of_value (val_of vector u)) (sorts_of vector rest) o h

pub many_first : (op : Op) (s : Sort) (rest : List Sort) → TakesMany op (s ∷ rest) → is_bits s ≡ true
many_first op s rest takes = rw (same_bits takes.width s (both_true (same_sort (Bits takes.width) s) (list_all (same_sort (Bits takes.width)) rest) takes.same).0) refl
