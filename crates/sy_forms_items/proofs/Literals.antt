-- Literals and their negations.
use Rattle.std.proofs.Common.{◌≡◌, ◌+◌, ◌≤◌, ◌∙◌, ℕ, zero, suc, ℤ, pos, negsuc, refl, sym, ap, arith, Bool, true, false, Option, Some, None, List, [], ◌∷◌, ◌++◌, length}
use Rattle.std.specs.Prelude.{if◌then◌else◌}
use Rattle.std.specs.Option.{option_map}
use Rattle.std.specs.Int.Signed.{lt_z}
use Rattle.std.proofs.lemmas.Bool.{eqb-true, ltb-true}
use Rattle.sy_terms.specs.Values.{Val, Truth, Whole, Bits}
use Rattle.sy_terms.specs.Sorts.{same_sort}
use Rattle.sy_terms.specs.Theories.{sort_of_value, whole_number}
use Rattle.sy_terms.specs.declared.sort.Sort.{Sort}
use Rattle.sy_terms.specs.declared.sort.Sort.TheVariants as sorts
use Rattle.sy_forms_items.specs.Meant.{phrase_of, phrases_of}
use Rattle.sy_forms_items.specs.Measures.{minus_numeral, negation_of, negated_literal, literals_in, all_literals}
use Rattle.sy_forms_items.specs.Phrases as phrase
use Rattle.sy_forms_items.specs.declared.phrase.Phrase.{Phrase}

pub same_sort_is : (s t : Sort) → same_sort s t ≡ true → s ≡ t
same_sort_is sorts.Bool sorts.Bool e = refl
same_sort_is sorts.Bool sorts.Int e = absurd cc
same_sort_is sorts.Bool (sorts.Bits w) e = absurd cc
same_sort_is sorts.Int sorts.Bool e = absurd cc
same_sort_is sorts.Int sorts.Int e = refl
same_sort_is sorts.Int (sorts.Bits w) e = absurd cc
same_sort_is (sorts.Bits v) sorts.Bool e = absurd cc
same_sort_is (sorts.Bits v) sorts.Int e = absurd cc
same_sort_is (sorts.Bits v) (sorts.Bits w) e = ap sorts.Bits (eqb-true v w e)

pub none_below : (z : ℤ) → lt_z z (pos 1) ≡ true → minus_numeral z ≡ None
none_below (pos zero) e = refl
none_below (pos (suc n)) e = let lt = ltb-true (suc n) 1 e in absurd (omega arith)
none_below (negsuc n) e = refl

pub above_0 : (z : ℤ) → lt_z z (pos 1) ≡ false → (less : ℕ) × (z ≡ pos (suc less))
above_0 (pos zero) e = absurd cc
above_0 (pos (suc n)) e = (n, refl)
above_0 (negsuc n) e = absurd cc

pub found_opposite : {N : Type 0} (denotes : N → Val) (numeric : Bool) (whole z : ℤ) (less : ℕ) (result : Option N) → option_map denotes result ≡ (if numeric then Some (Whole z) else None) → numeric ≡ true
    → whole ≡ pos (suc less) → z ≡ negsuc less → option_map denotes result ≡ minus_numeral whole
found_opposite denotes numeric whole z less result e is above minus = rw (e, is, above, minus) refl

pub int_negation : (d : Val) → same_sort (sort_of_value d) sorts.Int ≡ true → negation_of d ≡ minus_numeral (whole_number d)
int_negation (Truth b) e = absurd cc
int_negation (Whole z) e = refl
int_negation (Bits w n) e = absurd cc

pub other_negation : (d : Val) → same_sort (sort_of_value d) sorts.Int ≡ false → negation_of d ≡ None
other_negation (Truth b) e = refl
other_negation (Whole z) e = absurd cc
other_negation (Bits w n) e = refl

pub several_negated : {T N : Type 0} (number : N → Val) (phrases : List (Phrase T N)) → 2 ≤ length phrases → negated_literal (phrases_of number phrases) ≡ None
several_negated number [] le = absurd (omega arith)
several_negated number (x ∷ []) le = absurd (omega arith)
several_negated number (x ∷ y ∷ phrases) le = refl

pub nil_right : {A : Type 0} (xs : List A) → xs ++ [] ≡ xs
nil_right [] = refl
nil_right (x ∷ xs) = ap (λ zs. x ∷ zs) (nil_right xs)

pub assoc : {A : Type 0} (xs ys zs : List A) → (xs ++ ys) ++ zs ≡ xs ++ (ys ++ zs)
assoc [] ys zs = refl
assoc (x ∷ xs) ys zs = ap (λ l. x ∷ l) (assoc xs ys zs)

pub all_literals-last : {T N : Type 0} (number : N → Val) (phrases : List (Phrase T N)) (last : Phrase T N) → all_literals (phrases_of number (phrases ++ last ∷ [])) ≡ all_literals (phrases_of number phrases) ++ literals_in (phrase_of number last)
unfolding literals_in all_literals
all_literals-last number [] last = nil_right (literals_in (phrase_of number last))
all_literals-last number (phrase ∷ phrases) last =
    ap (λ rest. literals_in (phrase_of number phrase) ++ rest) (all_literals-last number phrases last) ∙ sym (assoc (literals_in (phrase_of number phrase)) (all_literals (phrases_of number phrases)) (literals_in (phrase_of number last)))

pub all_literals-none : all_literals phrase.none ≡ []
unfolding literals_in all_literals
all_literals-none = refl
