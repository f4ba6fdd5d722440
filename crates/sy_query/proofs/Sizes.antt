-- Terms over vectors of 1 to 64 bits are of such sorts, and each node weighs 1 or more.
use Rattle.std.specs.Prelude.{ℕ, zero, suc, ◌+◌, ◌*◌, ◌-◌, ◌≤◌, Bool, true, false, ◌&&◌, nat_eq, nat_le, nat_lt, List, [], ◌∷◌, ◌≡◌, refl, length, All, Option, Some, None, if◌then◌else◌}
use Rattle.std.specs.List.{list_all}
use Rattle.std.proofs.Common.{arith, subst}
use Rattle.std.proofs.lemmas.Bool.{leb-true, ltb-true}
use Rattle.std.proofs.lemmas.List.Elements.{All-head, All-tail}
use Rattle.sy_terms.specs.Sorts.{sort_of, same_sort, each_is, all_alike, choice, one_int, two_ints, one_width, two_widths, by_width, one_vector, two_vectors, vectors, up_to_64, two_joined, as_before, extracted, repeated, extended}
use Rattle.sy_terms.specs.declared.op.Op.{Op}
use Rattle.sy_terms.specs.declared.op.Op.TheVariants as ops
use Rattle.sy_terms.specs.declared.sort.Sort.{Sort}
use Rattle.sy_terms.specs.declared.sort.Sort.TheVariants as sorts
use Rattle.sy_terms.specs.declared.sorts.Sorted.{Sorted}
use Rattle.sy_terms.specs.declared.sorts.Sorted.TheVariants.{Is, Mismatch, BadWidth}
use Rattle.sy_terms_operators.proofs.Equations.{both_true}
use Rattle.sy_query.specs.Sized.{IsSized}

if_Is : (b : Bool) (x y : Sort) → (if b then Is x else Mismatch) ≡ Is y → (b ≡ true) × (x ≡ y)
if_Is true x y e = (refl, cc)
if_Is false x y e = cc

if_Is-bad : (b : Bool) (x y : Sort) → (if b then Is x else BadWidth) ≡ Is y → (b ≡ true) × (x ≡ y)
if_Is-bad true x y e = (refl, cc)
if_Is-bad false x y e = cc

if_then-bad : (b : Bool) (x : Sorted) (y : Sort) → (if b then x else BadWidth) ≡ Is y → (b ≡ true) × (x ≡ Is y)
if_then-bad true x y e = (refl, e)
if_then-bad false x y e = cc

if_Some : (b : Bool) (w u : ℕ) → (if b then Some w else None) ≡ Some u → w ≡ u
if_Some true w u e = cc
if_Some false w u e = cc

each_is-sized : (least : ℕ) (s value t : Sort) (ss : List Sort) → IsSized value → each_is least s ss value ≡ Is t → IsSized t
each_is-sized least s value t ss sized e = subst IsSized (if_Is (nat_le least (length ss) && list_all (same_sort s) ss) value t e).1 sized

all_alike-sized : (ss : List Sort) (t : Sort) → all_alike ss ≡ Is t → IsSized t
all_alike-sized [] t e = cc
all_alike-sized (s ∷ rest) t e = each_is-truth (nat_le 1 (length rest) && list_all (same_sort s) rest) e
  where
    each_is-truth : (b : Bool) → (if b then Is sorts.Bool else Mismatch) ≡ Is t → IsSized t
    each_is-truth b h = subst IsSized (if_Is b sorts.Bool t h).1 tt

choice-sized : (ss : List Sort) (t : Sort) → All IsSized ss → choice ss ≡ Is t → IsSized t
choice-sized [] t all e = cc
choice-sized (sorts.Int ∷ rest) t all e = cc
choice-sized (sorts.Bits w ∷ rest) t all e = cc
choice-sized (sorts.Bool ∷ []) t all e = cc
choice-sized (sorts.Bool ∷ s ∷ []) t all e = cc
choice-sized (sorts.Bool ∷ s ∷ u ∷ v ∷ rest) t all e = cc
choice-sized (sorts.Bool ∷ s ∷ u ∷ []) t all e = subst IsSized (if_Is (same_sort s u) s t e).1 (All-head IsSized s (u ∷ []) (All-tail IsSized sorts.Bool (s ∷ u ∷ []) all))

one_int-sized : (ss : List Sort) (t : Sort) → one_int ss ≡ Is t → IsSized t
one_int-sized [] t e = cc
one_int-sized (sorts.Bool ∷ rest) t e = cc
one_int-sized (sorts.Bits w ∷ rest) t e = cc
one_int-sized (sorts.Int ∷ s ∷ rest) t e = cc
one_int-sized (sorts.Int ∷ []) t e =
    let same : sorts.Int ≡ t = cc in
    subst IsSized same tt

two_ints-sized : (ss : List Sort) (t : Sort) → two_ints ss ≡ Is t → IsSized t
two_ints-sized [] t e = cc
two_ints-sized (sorts.Bool ∷ rest) t e = cc
two_ints-sized (sorts.Bits w ∷ rest) t e = cc
two_ints-sized (sorts.Int ∷ []) t e = cc
two_ints-sized (sorts.Int ∷ sorts.Bool ∷ rest) t e = cc
two_ints-sized (sorts.Int ∷ sorts.Bits w ∷ rest) t e = cc
two_ints-sized (sorts.Int ∷ sorts.Int ∷ s ∷ rest) t e = cc
two_ints-sized (sorts.Int ∷ sorts.Int ∷ []) t e =
    let same : sorts.Int ≡ t = cc in
    subst IsSized same tt

one_width-sized : (ss : List Sort) (w : ℕ) → All IsSized ss → one_width ss ≡ Some w → (1 ≤ w) × (w ≤ 64)
one_width-sized [] w all e = cc
one_width-sized (sorts.Bool ∷ rest) w all e = cc
one_width-sized (sorts.Int ∷ rest) w all e = cc
one_width-sized (sorts.Bits v ∷ s ∷ rest) w all e = cc
one_width-sized (sorts.Bits v ∷ []) w all e =
    let same : v ≡ w = cc in
    subst (λ (u : ℕ). (1 ≤ u) × (u ≤ 64)) same (All-head IsSized (sorts.Bits v) [] all)

two_widths-sized : (ss : List Sort) (w : ℕ) → All IsSized ss → two_widths ss ≡ Some w → (1 ≤ w) × (w ≤ 64)
two_widths-sized [] w all e = cc
two_widths-sized (sorts.Bool ∷ rest) w all e = cc
two_widths-sized (sorts.Int ∷ rest) w all e = cc
two_widths-sized (sorts.Bits v ∷ []) w all e = cc
two_widths-sized (sorts.Bits v ∷ sorts.Bool ∷ rest) w all e = cc
two_widths-sized (sorts.Bits v ∷ sorts.Int ∷ rest) w all e = cc
two_widths-sized (sorts.Bits v ∷ sorts.Bits u ∷ s ∷ rest) w all e = cc
two_widths-sized (sorts.Bits v ∷ sorts.Bits u ∷ []) w all e =
    subst (λ (x : ℕ). (1 ≤ x) × (x ≤ 64)) (if_Some (nat_eq v u) u w e) (All-head IsSized (sorts.Bits u) [] (All-tail IsSized (sorts.Bits v) (sorts.Bits u ∷ []) all))

by_width-sized : (value : ℕ → Sorted) (found : Option ℕ) (t : Sort) → ((w : ℕ) → found ≡ Some w → (1 ≤ w) × (w ≤ 64)) → ((w : ℕ) → (1 ≤ w) × (w ≤ 64) → value w ≡ Is t → IsSized t) → by_width value found ≡ Is t → IsSized t
by_width-sized value None t sized gives e = cc
by_width-sized value (Some w) t sized gives e = gives w (sized w refl) e

one-sized : (value : ℕ → Sorted) (ss : List Sort) (t : Sort) → All IsSized ss → ((w : ℕ) → (1 ≤ w) × (w ≤ 64) → value w ≡ Is t → IsSized t) → one_vector value ss ≡ Is t → IsSized t
one-sized value ss t all gives e = by_width-sized value (one_width ss) t (λ w h. one_width-sized ss w all h) gives e

two-sized : (value : ℕ → Sorted) (ss : List Sort) (t : Sort) → All IsSized ss → ((w : ℕ) → (1 ≤ w) × (w ≤ 64) → value w ≡ Is t → IsSized t) → two_vectors value ss ≡ Is t → IsSized t
two-sized value ss t all gives e = by_width-sized value (two_widths ss) t (λ w h. two_widths-sized ss w all h) gives e

as_before-sized : (t : Sort) (w : ℕ) → (1 ≤ w) × (w ≤ 64) → as_before w ≡ Is t → IsSized t
as_before-sized t w sized e =
    let same : sorts.Bits w ≡ t = cc in
    subst IsSized same sized

same-sized : (s t : Sort) → IsSized s → Is s ≡ Is t → IsSized t
same-sized s t sized e =
    let same : s ≡ t = cc in
    subst IsSized same sized

vectors-sized : (ss : List Sort) (t : Sort) → All IsSized ss → vectors ss ≡ Is t → IsSized t
vectors-sized [] t all e = cc
vectors-sized (sorts.Bool ∷ rest) t all e = cc
vectors-sized (sorts.Int ∷ rest) t all e = cc
vectors-sized (sorts.Bits v ∷ rest) t all e = subst IsSized (if_Is (nat_le 1 (length rest) && list_all (same_sort (sorts.Bits v)) rest) (sorts.Bits v) t e).1 (All-head IsSized (sorts.Bits v) rest all)

up_to_64-sized : (w : ℕ) (t : Sort) → 1 ≤ w → up_to_64 w ≡ Is t → IsSized t
up_to_64-sized w t least e =
    let both = if_Is-bad (nat_le w 64) (sorts.Bits w) t e in
    subst IsSized both.1 (least, leb-true w 64 both.0)

two_joined-sized : (ss : List Sort) (t : Sort) → All IsSized ss → two_joined ss ≡ Is t → IsSized t
two_joined-sized [] t all e = cc
two_joined-sized (sorts.Bool ∷ rest) t all e = cc
two_joined-sized (sorts.Int ∷ rest) t all e = cc
two_joined-sized (sorts.Bits v ∷ []) t all e = cc
two_joined-sized (sorts.Bits v ∷ sorts.Bool ∷ rest) t all e = cc
two_joined-sized (sorts.Bits v ∷ sorts.Int ∷ rest) t all e = cc
two_joined-sized (sorts.Bits v ∷ sorts.Bits u ∷ s ∷ rest) t all e = cc
two_joined-sized (sorts.Bits v ∷ sorts.Bits u ∷ []) t all e =
    let first = (All-head IsSized (sorts.Bits v) (sorts.Bits u ∷ []) all).0 in
    up_to_64-sized (v + u) t (omega (arith, first)) e

extracted-sized : (high low : ℕ) (ss : List Sort) (t : Sort) → All IsSized ss → extracted high low ss ≡ Is t → IsSized t
extracted-sized high low ss t all e = one-sized (λ w. if nat_le low high && nat_lt high w then Is (sorts.Bits (high - low + 1)) else BadWidth) ss t all (λ w sized h.
    let parts = if_Is-bad (nat_le low high && nat_lt high w) (sorts.Bits (high - low + 1)) t h in
    let both = both_true (nat_le low high) (nat_lt high w) parts.0 in
    let below = ltb-true high w both.1 in
    let most = sized.1 in
    subst IsSized parts.1 (omega arith, omega (arith, below, most))) e

repeated-least : (copies w : ℕ) → 1 ≤ copies → 1 ≤ w → 1 ≤ copies * w
repeated-least zero w c h = absurd (omega (arith, c))
repeated-least (suc copies) w c h = omega (arith, h)

repeated-sized : (copies : ℕ) (ss : List Sort) (t : Sort) → All IsSized ss → repeated copies ss ≡ Is t → IsSized t
repeated-sized copies ss t all e = one-sized (λ w. if nat_le 1 copies then up_to_64 (copies * w) else BadWidth) ss t all (λ w sized h.
    let parts = if_then-bad (nat_le 1 copies) (up_to_64 (copies * w)) t h in
    up_to_64-sized (copies * w) t (repeated-least copies w (leb-true 1 copies parts.0) sized.0) parts.1) e

extended-sized : (by : ℕ) (ss : List Sort) (t : Sort) → All IsSized ss → extended by ss ≡ Is t → IsSized t
extended-sized by ss t all e = one-sized (λ w. up_to_64 (w + by)) ss t all (λ w sized h. up_to_64-sized (w + by) t (let least = sized.0 in omega (arith, least)) h) e

-- the value of an operator has a sort of that kind
pub sort_of-sized : (op : Op) (ss : List Sort) (t : Sort) → All IsSized ss → sort_of op ss ≡ Is t → IsSized t
unfolding sort_of
sort_of-sized ops.Not [] t all e = cc
sort_of-sized ops.Not (sorts.Int ∷ rest) t all e = cc
sort_of-sized ops.Not (sorts.Bits w ∷ rest) t all e = cc
sort_of-sized ops.Not (sorts.Bool ∷ s ∷ rest) t all e = cc
sort_of-sized ops.Not (sorts.Bool ∷ []) t all e = same-sized sorts.Bool t tt e
sort_of-sized ops.And ss t all e = each_is-sized 1 sorts.Bool sorts.Bool t ss tt e
sort_of-sized ops.Or ss t all e = each_is-sized 1 sorts.Bool sorts.Bool t ss tt e
sort_of-sized ops.Xor ss t all e = each_is-sized 2 sorts.Bool sorts.Bool t ss tt e
sort_of-sized ops.Implies ss t all e = each_is-sized 2 sorts.Bool sorts.Bool t ss tt e
sort_of-sized ops.Equal ss t all e = all_alike-sized ss t e
sort_of-sized ops.Distinct ss t all e = all_alike-sized ss t e
sort_of-sized ops.Ite ss t all e = choice-sized ss t all e
sort_of-sized ops.Neg ss t all e = one_int-sized ss t e
sort_of-sized ops.Abs ss t all e = one_int-sized ss t e
sort_of-sized ops.Mod ss t all e = two_ints-sized ss t e
sort_of-sized ops.Sub ss t all e = each_is-sized 2 sorts.Int sorts.Int t ss tt e
sort_of-sized ops.Add ss t all e = each_is-sized 2 sorts.Int sorts.Int t ss tt e
sort_of-sized ops.Mul ss t all e = each_is-sized 2 sorts.Int sorts.Int t ss tt e
sort_of-sized ops.Div ss t all e = each_is-sized 2 sorts.Int sorts.Int t ss tt e
sort_of-sized ops.Le ss t all e = each_is-sized 2 sorts.Int sorts.Bool t ss tt e
sort_of-sized ops.Lt ss t all e = each_is-sized 2 sorts.Int sorts.Bool t ss tt e
sort_of-sized ops.Ge ss t all e = each_is-sized 2 sorts.Int sorts.Bool t ss tt e
sort_of-sized ops.Gt ss t all e = each_is-sized 2 sorts.Int sorts.Bool t ss tt e
sort_of-sized ops.Concat ss t all e = two_joined-sized ss t all e
sort_of-sized (ops.Extract i j) ss t all e = extracted-sized i j ss t all e
sort_of-sized ops.BvNot ss t all e = one-sized as_before ss t all (as_before-sized t) e
sort_of-sized ops.BvNeg ss t all e = one-sized as_before ss t all (as_before-sized t) e
sort_of-sized (ops.RotateLeft i) ss t all e = one-sized as_before ss t all (as_before-sized t) e
sort_of-sized (ops.RotateRight i) ss t all e = one-sized as_before ss t all (as_before-sized t) e
sort_of-sized ops.BvAnd ss t all e = vectors-sized ss t all e
sort_of-sized ops.BvOr ss t all e = vectors-sized ss t all e
sort_of-sized ops.BvXor ss t all e = vectors-sized ss t all e
sort_of-sized ops.BvAdd ss t all e = vectors-sized ss t all e
sort_of-sized ops.BvMul ss t all e = vectors-sized ss t all e
sort_of-sized ops.BvSub ss t all e = two-sized as_before ss t all (as_before-sized t) e
sort_of-sized ops.BvNand ss t all e = two-sized as_before ss t all (as_before-sized t) e
sort_of-sized ops.BvNor ss t all e = two-sized as_before ss t all (as_before-sized t) e
sort_of-sized ops.BvXnor ss t all e = two-sized as_before ss t all (as_before-sized t) e
sort_of-sized ops.BvComp ss t all e = two-sized (λ w. Is (sorts.Bits 1)) ss t all (λ w sized h. same-sized (sorts.Bits 1) t (omega arith, omega arith) h) e
sort_of-sized ops.BvUdiv ss t all e = two-sized as_before ss t all (as_before-sized t) e
sort_of-sized ops.BvUrem ss t all e = two-sized as_before ss t all (as_before-sized t) e
sort_of-sized ops.BvSdiv ss t all e = two-sized as_before ss t all (as_before-sized t) e
sort_of-sized ops.BvSrem ss t all e = two-sized as_before ss t all (as_before-sized t) e
sort_of-sized ops.BvSmod ss t all e = two-sized as_before ss t all (as_before-sized t) e
sort_of-sized ops.BvShl ss t all e = two-sized as_before ss t all (as_before-sized t) e
sort_of-sized ops.BvLshr ss t all e = two-sized as_before ss t all (as_before-sized t) e
sort_of-sized ops.BvAshr ss t all e = two-sized as_before ss t all (as_before-sized t) e
sort_of-sized (ops.Repeat i) ss t all e = repeated-sized i ss t all e
sort_of-sized (ops.ZeroExtend i) ss t all e = extended-sized i ss t all e
sort_of-sized (ops.SignExtend i) ss t all e = extended-sized i ss t all e
sort_of-sized ops.BvUlt ss t all e = two-sized (λ w. Is sorts.Bool) ss t all (λ w sized h. same-sized sorts.Bool t tt h) e
sort_of-sized ops.BvUle ss t all e = two-sized (λ w. Is sorts.Bool) ss t all (λ w sized h. same-sized sorts.Bool t tt h) e
sort_of-sized ops.BvUgt ss t all e = two-sized (λ w. Is sorts.Bool) ss t all (λ w sized h. same-sized sorts.Bool t tt h) e
sort_of-sized ops.BvUge ss t all e = two-sized (λ w. Is sorts.Bool) ss t all (λ w sized h. same-sized sorts.Bool t tt h) e
sort_of-sized ops.BvSlt ss t all e = two-sized (λ w. Is sorts.Bool) ss t all (λ w sized h. same-sized sorts.Bool t tt h) e
sort_of-sized ops.BvSle ss t all e = two-sized (λ w. Is sorts.Bool) ss t all (λ w sized h. same-sized sorts.Bool t tt h) e
sort_of-sized ops.BvSgt ss t all e = two-sized (λ w. Is sorts.Bool) ss t all (λ w sized h. same-sized sorts.Bool t tt h) e
sort_of-sized ops.BvSge ss t all e = two-sized (λ w. Is sorts.Bool) ss t all (λ w sized h. same-sized sorts.Bool t tt h) e

-- how many arguments an operator takes at least
pub least_two : (ss : List Sort) (least : ℕ) (s value t : Sort) → each_is least s ss value ≡ Is t → least ≤ length ss
least_two ss least s value t e =
    let both = both_true (nat_le least (length ss)) (list_all (same_sort s) ss) (if_Is (nat_le least (length ss) && list_all (same_sort s) ss) value t e).0 in
    leb-true least (length ss) both.0

all_alike-two : (ss : List Sort) (t : Sort) → all_alike ss ≡ Is t → 2 ≤ length ss
all_alike-two [] t e = cc
all_alike-two (s ∷ rest) t e =
    let both = both_true (nat_le 1 (length rest)) (list_all (same_sort s) rest) (if_Is (nat_le 1 (length rest) && list_all (same_sort s) rest) sorts.Bool t e).0 in
    let one = leb-true 1 (length rest) both.0 in
    omega (arith, one)

vectors-two : (ss : List Sort) (t : Sort) → vectors ss ≡ Is t → 2 ≤ length ss
vectors-two [] t e = cc
vectors-two (sorts.Bool ∷ rest) t e = cc
vectors-two (sorts.Int ∷ rest) t e = cc
vectors-two (sorts.Bits v ∷ rest) t e =
    let both = both_true (nat_le 1 (length rest)) (list_all (same_sort (sorts.Bits v)) rest) (if_Is (nat_le 1 (length rest) && list_all (same_sort (sorts.Bits v)) rest) (sorts.Bits v) t e).0 in
    let one = leb-true 1 (length rest) both.0 in
    omega (arith, one)

pub distinct-two : (ss : List Sort) (t : Sort) → sort_of ops.Distinct ss ≡ Is t → 2 ≤ length ss
unfolding sort_of
distinct-two ss t e = all_alike-two ss t e

pub product-two : (ss : List Sort) (t : Sort) → sort_of ops.BvMul ss ≡ Is t → 2 ≤ length ss
unfolding sort_of
product-two ss t e = vectors-two ss t e

pub division-two : (ss : List Sort) (t : Sort) → sort_of ops.Div ss ≡ Is t → 2 ≤ length ss
unfolding sort_of
division-two ss t e = least_two ss 2 sorts.Int sorts.Int t e
