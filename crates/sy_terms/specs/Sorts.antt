-- The sort of an operator's value, by the sorts of its arguments.
use Rattle.std.specs.Prelude.{ℕ, ◌+◌, ◌-◌, ◌*◌, Bool, true, false, ◌&&◌, nat_lt, nat_le, nat_eq, List, [], ◌∷◌, length, Option, Some, None, if◌then◌else◌}
use Rattle.std.specs.List.{list_all}
use Rattle.sy_terms.specs.declared.op.Op.{Op}
use Rattle.sy_terms.specs.declared.op.Op.TheVariants as ops
use Rattle.sy_terms.specs.declared.sort.Sort.{Sort}
use Rattle.sy_terms.specs.declared.sort.Sort.TheVariants.{Bool as Truths, Int, Bits}
use Rattle.sy_terms.specs.declared.sorts.Sorted.{Sorted}
use Rattle.sy_terms.specs.declared.sorts.Sorted.TheVariants.{Is, Mismatch, BadWidth}

abbrev pub same_sort : Sort → Sort → Bool
same_sort Truths Truths = true
same_sort Int Int = true
same_sort (Bits v) (Bits w) = nat_eq v w
same_sort _ _ = false

-- so many arguments or more, each of this sort
abbrev pub each_is : ℕ → Sort → List Sort → Sort → Sorted
each_is least sort sorts value = if nat_le least (length sorts) && list_all (same_sort sort) sorts then Is value else Mismatch

-- two arguments or more, all of one sort
abbrev pub all_alike : List Sort → Sorted
all_alike [] = Mismatch
all_alike (s ∷ rest) = if nat_le 1 (length rest) && list_all (same_sort s) rest then Is Truths else Mismatch

-- a truth value, and two arguments of one sort
abbrev pub choice : List Sort → Sorted
choice (Truths ∷ s ∷ t ∷ []) = if same_sort s t then Is s else Mismatch
choice _ = Mismatch

abbrev pub one_int : List Sort → Sorted
one_int (Int ∷ []) = Is Int
one_int _ = Mismatch

abbrev pub two_ints : List Sort → Sorted
two_ints (Int ∷ Int ∷ []) = Is Int
two_ints _ = Mismatch

-- the width of the one vector
abbrev pub one_width : List Sort → Option ℕ
one_width (Bits w ∷ []) = Some w
one_width _ = None

-- the width of two vectors that have the same
abbrev pub two_widths : List Sort → Option ℕ
two_widths (Bits v ∷ Bits w ∷ []) = if nat_eq v w then Some w else None
two_widths _ = None

-- where the vectors fit, the value's sort by their width
abbrev pub by_width : (ℕ → Sorted) → Option ℕ → Sorted
by_width value None = Mismatch
by_width value (Some w) = value w

abbrev pub one_vector : (ℕ → Sorted) → List Sort → Sorted
one_vector value sorts = by_width value (one_width sorts)

abbrev pub two_vectors : (ℕ → Sorted) → List Sort → Sorted
two_vectors value sorts = by_width value (two_widths sorts)

-- two vectors or more, all of one width
abbrev pub vectors : List Sort → Sorted
vectors (Bits v ∷ rest) = if nat_le 1 (length rest) && list_all (same_sort (Bits v)) rest then Is (Bits v) else Mismatch
vectors _ = Mismatch

-- a width of at most 64
abbrev pub up_to_64 : ℕ → Sorted
up_to_64 w = if nat_le w 64 then Is (Bits w) else BadWidth

abbrev pub two_joined : List Sort → Sorted
two_joined (Bits v ∷ Bits w ∷ []) = up_to_64 (v + w)
two_joined _ = Mismatch

abbrev pub as_before : ℕ → Sorted
as_before w = Is (Bits w)

-- bits high down to low
abbrev pub extracted : ℕ → ℕ → List Sort → Sorted
extracted high low sorts = one_vector (λ w. if nat_le low high && nat_lt high w then Is (Bits (high - low + 1)) else BadWidth) sorts

-- so many copies, one or more
abbrev pub repeated : ℕ → List Sort → Sorted
repeated copies sorts = one_vector (λ w. if nat_le 1 copies then up_to_64 (copies * w) else BadWidth) sorts

-- so many bits more
abbrev pub extended : ℕ → List Sort → Sorted
extended by sorts = one_vector (λ w. up_to_64 (w + by)) sorts

-- the sort, or what is amiss: the number or sorts of the arguments, or else an index or the value's width
unfoldable pub sort_of : Op → List Sort → Sorted
sort_of ops.Not (Truths ∷ []) = Is Truths
sort_of ops.Not _ = Mismatch
sort_of ops.And sorts = each_is 1 Truths sorts Truths
sort_of ops.Or sorts = each_is 1 Truths sorts Truths
sort_of ops.Xor sorts = each_is 2 Truths sorts Truths
sort_of ops.Implies sorts = each_is 2 Truths sorts Truths
sort_of ops.Equal sorts = all_alike sorts
sort_of ops.Distinct sorts = all_alike sorts
sort_of ops.Ite sorts = choice sorts
sort_of ops.Neg sorts = one_int sorts
sort_of ops.Sub sorts = each_is 2 Int sorts Int
sort_of ops.Add sorts = each_is 2 Int sorts Int
sort_of ops.Mul sorts = each_is 2 Int sorts Int
sort_of ops.Div sorts = each_is 2 Int sorts Int
sort_of ops.Mod sorts = two_ints sorts
sort_of ops.Abs sorts = one_int sorts
sort_of ops.Le sorts = each_is 2 Int sorts Truths
sort_of ops.Lt sorts = each_is 2 Int sorts Truths
sort_of ops.Ge sorts = each_is 2 Int sorts Truths
sort_of ops.Gt sorts = each_is 2 Int sorts Truths
sort_of ops.Concat sorts = two_joined sorts
sort_of (ops.Extract i j) sorts = extracted i j sorts
sort_of ops.BvNot sorts = one_vector as_before sorts
sort_of ops.BvNeg sorts = one_vector as_before sorts
sort_of ops.BvAnd sorts = vectors sorts
sort_of ops.BvOr sorts = vectors sorts
sort_of ops.BvXor sorts = vectors sorts
sort_of ops.BvAdd sorts = vectors sorts
sort_of ops.BvMul sorts = vectors sorts
sort_of ops.BvSub sorts = two_vectors as_before sorts
sort_of ops.BvNand sorts = two_vectors as_before sorts
sort_of ops.BvNor sorts = two_vectors as_before sorts
sort_of ops.BvXnor sorts = two_vectors as_before sorts
sort_of ops.BvComp sorts = two_vectors (λ w. Is (Bits 1)) sorts
sort_of ops.BvUdiv sorts = two_vectors as_before sorts
sort_of ops.BvUrem sorts = two_vectors as_before sorts
sort_of ops.BvSdiv sorts = two_vectors as_before sorts
sort_of ops.BvSrem sorts = two_vectors as_before sorts
sort_of ops.BvSmod sorts = two_vectors as_before sorts
sort_of ops.BvShl sorts = two_vectors as_before sorts
sort_of ops.BvLshr sorts = two_vectors as_before sorts
sort_of ops.BvAshr sorts = two_vectors as_before sorts
sort_of (ops.Repeat i) sorts = repeated i sorts
sort_of (ops.ZeroExtend i) sorts = extended i sorts
sort_of (ops.SignExtend i) sorts = extended i sorts
sort_of (ops.RotateLeft i) sorts = one_vector as_before sorts
sort_of (ops.RotateRight i) sorts = one_vector as_before sorts
sort_of ops.BvUlt sorts = two_vectors (λ w. Is Truths) sorts
sort_of ops.BvUle sorts = two_vectors (λ w. Is Truths) sorts
sort_of ops.BvUgt sorts = two_vectors (λ w. Is Truths) sorts
sort_of ops.BvUge sorts = two_vectors (λ w. Is Truths) sorts
sort_of ops.BvSlt sorts = two_vectors (λ w. Is Truths) sorts
sort_of ops.BvSle sorts = two_vectors (λ w. Is Truths) sorts
sort_of ops.BvSgt sorts = two_vectors (λ w. Is Truths) sorts
sort_of ops.BvSge sorts = two_vectors (λ w. Is Truths) sorts
