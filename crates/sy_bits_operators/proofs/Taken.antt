-- Which arguments the operators on vectors take, and how many there are.
use Rattle.std.specs.Prelude.{ℕ, ◌+◌, ◌-◌, ◌≡◌, ◌≤◌, ◌<◌, ◌≢◌, Bool, true, false, ◌&&◌, nat_eq, nat_le, List, [], ◌∷◌, refl, Some, None, length, slice_index_or, if◌then◌else◌}
use Rattle.std.specs.List.{list_all}
use Rattle.std.proofs.Common.{arith, ap, sym, take, drop}
use Rattle.std.proofs.lemmas.Bool.{eqb-true}
use Rattle.std.proofs.lemmas.Bool.Decides.{nat_tests}
use Rattle.std.proofs.lemmas.List.{take_all}
use Rattle.sy_terms.specs.Values.{Val}
use Rattle.sy_terms.specs.Operators.{op_value}
use Rattle.sy_terms.specs.Sorts.{sort_of, same_sort, by_width}
use Rattle.sy_terms.specs.declared.op.Op.{Op}
use Rattle.sy_terms.specs.declared.op.Op.TheVariants as ops
use Rattle.sy_terms.specs.declared.sort.Sort.{Sort}
use Rattle.sy_terms.specs.declared.sort.Sort.TheVariants.{Bool as Truths, Int, Bits}
use Rattle.sy_terms.specs.declared.sorts.Sorted.{Sorted}
use Rattle.sy_terms.specs.declared.sorts.Sorted.TheVariants.{Is, Mismatch, BadWidth}
use Rattle.sy_meaning_words.specs.Vectors.{in_vectors, is_bits, is_folded, has_a_sort, TakesSorts, TakesMany}

both_true : (a b : Bool) → (a && b) ≡ true → (a ≡ true) × (b ≡ true)
both_true true true e = (refl, refl)
both_true true false e = cc
both_true false b e = cc

if_sort : (b : Bool) (s : Sort) → has_a_sort (if b then Is s else Mismatch) ≡ true → b ≡ true
if_sort true s h = refl
if_sort false s h = cc

width_found : (b : Bool) (value : ℕ → Sorted) (w : ℕ) → has_a_sort (by_width value (if b then Some w else None)) ≡ true → b ≡ true
width_found true value w h = refl
width_found false value w h = cc

pub none_taken : (op : Op) → in_vectors op ≡ true → TakesSorts op [] → ⊥
unfolding sort_of
none_taken ops.Not v h = absurd cc
none_taken _ v h = absurd cc

pub single_bits : (op : Op) (s : Sort) → in_vectors op ≡ true → TakesSorts op (s ∷ []) → is_bits s ≡ true
unfolding sort_of
single_bits ops.Not s v h = cc
single_bits _ (Bits w) v h = refl
single_bits _ Truths v h = cc
single_bits _ Int v h = cc

pub pair_bits : (op : Op) (s t : Sort) → in_vectors op ≡ true → TakesSorts op (s ∷ t ∷ []) → (is_bits s ≡ true) × (is_bits t ≡ true)
unfolding sort_of
pair_bits ops.Not s t v h = absurd cc
pair_bits _ (Bits v) (Bits w) o h = (refl, refl)
pair_bits _ Truths t o h = absurd cc
pair_bits _ Int t o h = absurd cc
pair_bits _ (Bits v) Truths o h = absurd cc
pair_bits _ (Bits v) Int o h = absurd cc

-- so many vectors from the left are of one width
vectors_same : (v w : ℕ) → has_a_sort (if nat_eq v w && true then Is (Bits v) else Mismatch) ≡ true → v ≡ w
vectors_same v w h = eqb-true v w (both_true (nat_eq v w) true (if_sort (nat_eq v w && true) (Bits v) h)).0

two_same : (v w : ℕ) (value : ℕ → Sorted) → has_a_sort (by_width value (if nat_eq v w then Some w else None)) ≡ true → v ≡ w
two_same v w value h = eqb-true v w (width_found (nat_eq v w) value w h)

pub pair_widths : (op : Op) (v w : ℕ) → in_vectors op ≡ true → op ≢ ops.Concat → TakesSorts op (Bits v ∷ Bits w ∷ []) → v ≡ w
unfolding sort_of
pair_widths ops.Not v w o apart h = cc
pair_widths ops.Concat v w o apart h = absurd (apart refl)
pair_widths _ v w o apart h = first_of (cc, search (vectors_same, two_same))

same_self : (v : ℕ) → nat_eq v v ≡ true
same_self v = grind (arith, nat_tests)

-- no operator of another theory
other : {X : Type 0} → false ≡ true → X
other e = absurd cc

many_same : (op : Op) → is_folded op ≡ true → (v : ℕ) (rest : List Sort) → has_a_sort (if nat_le 1 (length rest) && list_all (same_sort (Bits v)) rest then Is (Bits v) else Mismatch) ≡ true → TakesMany op (Bits v ∷ rest)
many_same op f v rest h =
    let each = both_true (nat_le 1 (length rest)) (list_all (same_sort (Bits v)) rest) (if_sort (nat_le 1 (length rest) && list_all (same_sort (Bits v)) rest) (Bits v) h) in
    record { folded = f; width = v; same = rw (same_self v) each.1 }

-- more than two arguments are of one width, and are taken from the left
pub many : (op : Op) (s t u : Sort) (rest : List Sort) → in_vectors op ≡ true → TakesSorts op (s ∷ t ∷ u ∷ rest) → TakesMany op (s ∷ t ∷ u ∷ rest)
unfolding sort_of
many ops.BvAnd (Bits v) t u rest o h = many_same ops.BvAnd refl v (t ∷ u ∷ rest) h
many ops.BvOr (Bits v) t u rest o h = many_same ops.BvOr refl v (t ∷ u ∷ rest) h
many ops.BvXor (Bits v) t u rest o h = many_same ops.BvXor refl v (t ∷ u ∷ rest) h
many ops.BvAdd (Bits v) t u rest o h = many_same ops.BvAdd refl v (t ∷ u ∷ rest) h
many ops.BvMul (Bits v) t u rest o h = many_same ops.BvMul refl v (t ∷ u ∷ rest) h
many ops.Not s t u rest o h = other o
many ops.And s t u rest o h = other o
many ops.Or s t u rest o h = other o
many ops.Xor s t u rest o h = other o
many ops.Implies s t u rest o h = other o
many ops.Equal s t u rest o h = other o
many ops.Distinct s t u rest o h = other o
many ops.Ite s t u rest o h = other o
many ops.Neg s t u rest o h = other o
many ops.Sub s t u rest o h = other o
many ops.Add s t u rest o h = other o
many ops.Mul s t u rest o h = other o
many ops.Div s t u rest o h = other o
many ops.Mod s t u rest o h = other o
many ops.Abs s t u rest o h = other o
many ops.Le s t u rest o h = other o
many ops.Lt s t u rest o h = other o
many ops.Ge s t u rest o h = other o
many ops.Gt s t u rest o h = other o
many _ Truths t u rest o h = absurd cc
many _ Int t u rest o h = absurd cc
many _ (Bits v) Truths u rest o h = absurd cc
many _ (Bits v) Int u rest o h = absurd cc
many _ (Bits v) (Bits w) u rest o h = absurd cc

-- two of one width are taken by what takes many
pub folded_takes : (op : Op) (w : ℕ) → is_folded op ≡ true → TakesSorts op (Bits w ∷ Bits w ∷ [])
unfolding sort_of
folded_takes ops.BvAnd w f = rw (same_self w) refl
folded_takes ops.BvOr w f = rw (same_self w) refl
folded_takes ops.BvXor w f = rw (same_self w) refl
folded_takes ops.BvAdd w f = rw (same_self w) refl
folded_takes ops.BvMul w f = rw (same_self w) refl
folded_takes _ w f = absurd cc

up_to : (b : Bool) (s : Sort) → has_a_sort (if b then Is s else BadWidth) ≡ true → b ≡ true
up_to true s h = refl
up_to false s h = cc

-- the width of two joined vectors
pub joined_width : (v w : ℕ) → TakesSorts ops.Concat (Bits v ∷ Bits w ∷ []) → v + w ≤ 64
unfolding sort_of
joined_width v w h = let test = up_to (nat_le (v + w) 64) (Bits (v + w)) h in grind (arith, nat_tests)

-- taken from the left

pub fold_step : (op : Op) (x y : Val) (rest : List Val) → is_folded op ≡ true → op_value op (x ∷ y ∷ rest) ≡ op_value op (op_value op (x ∷ y ∷ []) ∷ rest)
unfolding op_value
fold_step ops.BvAnd x y rest f = refl
fold_step ops.BvOr x y rest f = refl
fold_step ops.BvXor x y rest f = refl
fold_step ops.BvAdd x y rest f = refl
fold_step ops.BvMul x y rest f = refl
fold_step _ x y rest f = absurd cc

pub fold_end : (op : Op) (x : Val) → is_folded op ≡ true → op_value op (x ∷ []) ≡ x
unfolding op_value
fold_end ops.BvAnd x f = refl
fold_end ops.BvOr x f = refl
fold_end ops.BvXor x f = refl
fold_end ops.BvAdd x f = refl
fold_end ops.BvMul x f = refl
fold_end _ x f = absurd cc

pub takes_two : (op : Op) (v w : ℕ) → is_folded op ≡ true → v ≡ w → TakesSorts op (Bits v ∷ Bits w ∷ [])
takes_two op v w f e = rw e (folded_takes op w f)

-- lists of few items

pub no_items : {X : Type 0} (xs : List X) → length xs < 1 → xs ≡ []
no_items [] h = refl
no_items (a ∷ r) h = absurd (omega arith)

pub one_item : {X : Type 0} (xs : List X) (x : X) → 1 ≤ length xs → length xs < 2 → x ≡ slice_index_or xs 0 x → xs ≡ x ∷ []
one_item [] x h k e = absurd (omega arith)
one_item (a ∷ []) x h k e = ap (λ y. y ∷ []) (sym e)
one_item (a ∷ b ∷ r) x h k e = absurd (omega arith)

pub two_items : {X : Type 0} (xs : List X) (x y : X) → 2 ≤ length xs → length xs < 3 → x ≡ slice_index_or xs 0 x → y ≡ slice_index_or xs 1 y → xs ≡ x ∷ y ∷ []
two_items [] x y h k e f = absurd (omega arith)
two_items (a ∷ []) x y h k e f = absurd (omega arith)
two_items (a ∷ b ∷ []) x y h k e f = cc
two_items (a ∷ b ∷ c ∷ r) x y h k e f = absurd (omega arith)

pub split_first : {X : Type 0} (xs : List X) (x : X) → 1 ≤ length xs → x ≡ slice_index_or xs 0 x → xs ≡ x ∷ take (length xs - 1) (drop 1 xs)
split_first [] x h e = absurd (omega arith)
split_first (a ∷ r) x h e = let all = take_all (length (a ∷ r) - 1) r (omega arith) in rw all (ap (λ y. y ∷ r) (sym e))
