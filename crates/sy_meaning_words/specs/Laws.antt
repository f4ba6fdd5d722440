-- Each word stands for one vector, and no other does.
use Rattle.std.proofs.Common.{◌≡◌, ◌≢◌, ap, refl, ℕ, Bool, true, ◌&&◌, nat_eq, arith, subst}
use Rattle.std.proofs.lemmas.Bool.Decides.{nat_tests}
use Rattle.std.proofs.Math.Bool.{Bool-set}
use Rattle.sy_terms.specs.Values.{Bits, Truth, width, number}
use Rattle.sy_terms.specs.Theories.{valid, sort_of_value, in_core}
use Rattle.sy_terms.specs.declared.op.Op.{Op}
use Rattle.sy_terms.specs.declared.op.Op.TheVariants as ops
use Rattle.sy_terms.specs.declared.sort.Sort.TheVariants as sorts
use Rattle.sy_meaning_words.specs.Vectors.{vector, owned, is_bits}
use Rattle.sy_meaning_words.specs.declared.word.Word.{Word}

made : (w b : ℕ) → valid (Bits w b) ≡ true → Word
made w b fits = record { width = w; bits = b; is_valid = fits }

one_fact : (b : Bool) (x y : b ≡ true) → x ≡ y
one_fact b x y = Bool-set b true x y

same_made : (v m : ℕ) (x : valid (Bits v m) ≡ true) (w n : ℕ) → v ≡ w → m ≡ n → (y : valid (Bits w n) ≡ true) → made v m x ≡ made w n y
same_made v m x w n p q =
    subst (λ (w : ℕ). (y : valid (Bits w n) ≡ true) → made v m x ≡ made w n y) p
    (subst (λ (n : ℕ). (y : valid (Bits v n) ≡ true) → made v m x ≡ made v n y) q
    (λ y. ap (made v m) (one_fact (valid (Bits v m)) x y)))

pub one_to_one : (m n : Word) → vector m ≡ vector n → m ≡ n
unfolding made
one_to_one m n e = same_made m.width m.bits m.is_valid n.width n.bits (ap width e) (ap number e) n.is_valid

same_parts : (v m w n : ℕ) → (nat_eq v w && nat_eq m n) ≡ true → (v ≡ w) × (m ≡ n)
same_parts v m w n e = grind (arith, nat_tests)

pub equal : (m n : Word) → (nat_eq m.width n.width && nat_eq m.bits n.bits) ≡ true → vector m ≡ vector n
equal m n e = let same = same_parts m.width m.bits n.width n.bits e in let w = same.0 in let b = same.1 in cc

pub no_truth : (n : Word) (truth : Bool) → vector n ≢ Truth truth
no_truth n truth e = cc

pub sorted : (n : Word) → is_bits (sort_of_value (vector n)) ≡ true
sorted n = refl

pub core : (op : Op) → in_core op ≡ true → owned op ≡ true
core ops.Not h = refl
core ops.And h = refl
core ops.Or h = refl
core ops.Xor h = refl
core ops.Implies h = refl
core ops.Equal h = refl
core ops.Distinct h = refl
core ops.Ite h = refl
core _ h = cc

pub negation : is_bits sorts.Int ≡ true → owned ops.Neg ≡ true
negation e = cc
