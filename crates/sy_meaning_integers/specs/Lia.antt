-- The logic LIA: its operators, the sorts of its numbers, and what they stand for.
use Rattle.std.specs.Prelude.{Bool, true, ◌||◌, false, ℤ, ◌≡◌, ◌≢◌, refl}
use Rattle.std.specs.Ordering.{int_eq}
use Rattle.std.proofs.Common.{ap}
use Rattle.std.proofs.lemmas.Bool.Decides.{Decides-int_eq}
use Rattle.sy_terms.specs.Values.{Truth, Whole}
use Rattle.sy_terms.specs.declared.op.Op.{Op}
use Rattle.sy_terms.specs.declared.op.Op.TheVariants as ops
use Rattle.sy_terms.specs.Theories.{in_core, in_ints, sort_of_value}
use Rattle.sy_terms.specs.declared.sort.Sort.{Sort}
use Rattle.sy_terms.specs.declared.sort.Sort.TheVariants as sorts

abbrev pub owned : Op → Bool
owned operator = in_core operator || in_ints operator

-- the sorts of its numbers
abbrev pub numeric : Sort → Bool
numeric sorts.Int = true
numeric _ = false

pub one_to_one : (m n : ℤ) → Whole m ≡ Whole n → m ≡ n
one_to_one m n e = cc

pub equal : (m n : ℤ) → int_eq m n ≡ true → Whole m ≡ Whole n
equal m n e = ap Whole ((Decides-int_eq m n).0 e)

pub no_truth : (n : ℤ) (truth : Bool) → Whole n ≢ Truth truth
no_truth n truth e = cc

pub sorted : (n : ℤ) → numeric (sort_of_value (Whole n)) ≡ true
sorted n = refl

or-left : (a b : Bool) → a ≡ true → (a || b) ≡ true
or-left true b e = refl
or-left false b e = cc

pub core : (operator : Op) → in_core operator ≡ true → owned operator ≡ true
core operator e = or-left (in_core operator) (in_ints operator) e

pub negation : numeric sorts.Int ≡ true → owned ops.Neg ≡ true
negation e = refl
