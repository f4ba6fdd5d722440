-- What the words of a machine stand for, and the operators on them.
use Rattle.std.specs.Prelude.{Bool, true, false, not, ◌||◌, List, ◌≡◌, ℕ}
use Rattle.std.specs.List.{list_all}
use Rattle.sy_terms.specs.Values.{Val, Bits}
use Rattle.sy_terms.specs.Sorts.{sort_of, same_sort}
use Rattle.sy_terms.specs.Theories.{in_core, in_ints}
use Rattle.sy_terms.specs.declared.op.Op.{Op}
use Rattle.sy_terms.specs.declared.op.Op.TheVariants as ops
use Rattle.sy_terms.specs.declared.sort.Sort.{Sort}
use Rattle.sy_terms.specs.declared.sort.Sort.TheVariants as sorts
use Rattle.sy_terms.specs.declared.sorts.Sorted.{Sorted}
use Rattle.sy_terms.specs.declared.sorts.Sorted.TheVariants.{Is}
use Rattle.sy_meaning_words.specs.declared.word.Word.{Word}

-- the vector that a word stands for
abbrev pub vector : Word → Val
vector word = Bits word.width word.bits

-- the operators of the theory FixedSizeBitVectors: those of neither Core nor Ints
abbrev pub in_vectors : Op → Bool
in_vectors op = not (in_core op || in_ints op)

-- the sorts of vectors
abbrev pub is_bits : Sort → Bool
is_bits (sorts.Bits width) = true
is_bits _ = false

-- the operators that take any number of vectors from the left
abbrev pub is_folded : Op → Bool
is_folded ops.BvAnd = true
is_folded ops.BvOr = true
is_folded ops.BvXor = true
is_folded ops.BvAdd = true
is_folded ops.BvMul = true
is_folded _ = false

abbrev pub has_a_sort : Sorted → Bool
has_a_sort (Is sort) = true
has_a_sort _ = false

-- the operator has a value at arguments of these sorts
abbrev pub TakesSorts : Op → List Sort → Type 0
TakesSorts op arguments = has_a_sort (sort_of op arguments) ≡ true

-- it takes many vectors of one width from the left
pub record TakesMany (op : Op) (arguments : List Sort) : Type 0 where
  pub folded : is_folded op ≡ true
  pub width : ℕ
  pub same : list_all (same_sort (sorts.Bits width)) arguments ≡ true

-- the operators of Core and of vectors
abbrev pub owned : Op → Bool
owned op = not (in_ints op)
