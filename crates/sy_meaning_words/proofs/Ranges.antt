-- Vectors never leave the range of a machine.
use Rattle.std.specs.Prelude.{◌≡◌, Bool, true, false, not, List, refl}
use Rattle.sy_terms.specs.Values.{Val}
use Rattle.sy_terms.specs.Theories.{in_core, in_ints, fits, valid}
use Rattle.sy_terms.specs.Denoted.{val_of}
use Rattle.sy_terms.specs.declared.op.Op.{Op}
use Rattle.sy_terms.specs.declared.op.Op.TheVariants as ops
use Rattle.sy_terms.specs.declared.sort.Value.{Value}
use Rattle.sy_terms.specs.declared.sort.Value.TheVariants.{Truth, Num}
use Rattle.sy_meaning_words.specs.Vectors.{vector, in_vectors, owned}
use Rattle.sy_meaning_words.specs.declared.word.Word.{Word}

pub fits_always : (op : Op) (values : List Val) → in_ints op ≡ false → fits op values ≡ true
unfolding fits
fits_always ops.Neg values o = cc
fits_always ops.Abs values o = cc
fits_always ops.Sub values o = cc
fits_always ops.Add values o = cc
fits_always ops.Mul values o = cc
fits_always ops.Div values o = cc
fits_always _ values o = refl

pub valid_always : (v : Value Word) → valid (val_of vector v) ≡ true
valid_always (Truth b) = refl
valid_always (Num word) = word.is_valid

negation : (b : Bool) → not b ≡ true → b ≡ false
negation false e = refl
negation true e = cc

pub not_ints : (op : Op) → owned op ≡ true → in_ints op ≡ false
not_ints op o = negation (in_ints op) o

pub vectors_or_core : (op : Op) → owned op ≡ true → in_core op ≡ false → in_vectors op ≡ true
vectors_or_core op o k = rw (k, negation (in_ints op) o) refl
