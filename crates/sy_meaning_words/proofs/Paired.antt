-- Pairs of values at which an operator on vectors has a value.
use Rattle.std.specs.Prelude.{Bool, true, false, not, ◌||◌, ◌≡◌, ◌≢◌, ◌∷◌, [], refl}
use Rattle.std.proofs.Common.{ap}
use Rattle.sy_terms.specs.Operators.{op_value}
use Rattle.sy_terms.specs.Theories.{sort_of_value, valid, fits, in_core, in_ints}
use Rattle.sy_terms.specs.Denoted.{val_of, IsSorted}
use Rattle.sy_terms.specs.declared.op.Op.{Op}
use Rattle.sy_terms.specs.declared.op.Op.TheVariants as ops
use Rattle.sy_terms.specs.declared.sort.Value.{Value}
use Rattle.sy_meaning_words.specs.Vectors.{vector, in_vectors, is_bits, has_a_sort, TakesSorts}
use Rattle.sy_meaning_words.specs.declared.word.Word.{Word}
use Rattle.sy_meaning_words.proofs.Ranges.{fits_always}
use Rattle.sy_meaning_words.proofs.Shapes.{pair_bits, word_widths}

pub pair-taken : (op : Op) (a b : Value Word) → IsSorted op (val_of vector a ∷ val_of vector b ∷ []) → TakesSorts op (sort_of_value (val_of vector a) ∷ sort_of_value (val_of vector b) ∷ [])
pair-taken op a b sorted = ap has_a_sort sorted.fits

-- both are vectors
pub both-bits : (op : Op) (a b : Value Word) → in_vectors op ≡ true → IsSorted op (val_of vector a ∷ val_of vector b ∷ []) → (is_bits (sort_of_value (val_of vector a)) ≡ true) × (is_bits (sort_of_value (val_of vector b)) ≡ true)
both-bits op a b ours sorted = pair_bits op (sort_of_value (val_of vector a)) (sort_of_value (val_of vector b)) ours (pair-taken op a b sorted)

-- of one width
pub one-width : (op : Op) (s t : Word) (a b : Value Word) → in_vectors op ≡ true → op ≢ ops.Concat → vector s ≡ val_of vector a → vector t ≡ val_of vector b → IsSorted op (val_of vector a ∷ val_of vector b ∷ []) → s.width ≡ t.width
one-width op s t a b ours apart s_is t_is sorted = word_widths op s t (val_of vector a) (val_of vector b) ours apart s_is t_is (pair-taken op a b sorted)

neither : (a b : Bool) → not (a || b) ≡ true → b ≡ false
neither true b h = cc
neither false true h = cc
neither false false h = refl

-- a word that is the operator's value
pub word-found : (op : Op) (s t word : Word) (a b : Value Word) → in_vectors op ≡ true → vector s ≡ val_of vector a → vector t ≡ val_of vector b → vector word ≡ op_value op (vector s ∷ vector t ∷ []) →
    (valid (vector word) ≡ true) × (fits op (val_of vector a ∷ val_of vector b ∷ []) ≡ true) × (vector word ≡ op_value op (val_of vector a ∷ val_of vector b ∷ []))
word-found op s t word a b ours s_is t_is is = (word.is_valid, fits_always op (val_of vector a ∷ val_of vector b ∷ []) (neither (in_core op) (in_ints op) ours), rw (← s_is, ← t_is) is)
