-- An operator applied at each place up to one.
use Rattle.std.proofs.Common.{◌≡◌, ℕ, zero, suc, ◌+◌, ◌<◌, ◌≤◌, List, [], ◌∷◌, length, true, false, refl, ap, sym, ◌∙◌, arith, get_or, set, subst, ◌⊎◌, inl, inr}
use Rattle.std.proofs.lemmas.List.{length-map, length-set, map-set}
use Rattle.sy_terms.specs.Values.{Val}
use Rattle.sy_terms.specs.Operators.{op_value}
use Rattle.sy_terms.specs.Denoted.{val_of, vals_of, IsSorted}
use Rattle.sy_terms.specs.Theories.{fits, valid}
use Rattle.sy_terms.specs.Meaning.{value_at_position}
use Rattle.sy_terms.specs.Pairs.{pair_at, ArePairsSorted, ArePairsApplied, IsFirstUnfit}
use Rattle.sy_terms.specs.declared.op.Op.{Op}
use Rattle.sy_terms.specs.declared.sort.Value.{Value}

-- the value of a place
pub value-at : {N : Type 0} (number : N → Val) (row : List (Value N)) (k : ℕ) (v : Value N) → k < length row → v ≡ get_or row k v → value_at_position (vals_of number row) k ≡ val_of number v
value-at number [] k v within is = absurd (omega arith)
value-at number (first ∷ row) zero v within is = ap (val_of number) (sym is)
value-at number (first ∷ row) (suc k) v within is = value-at number row k v (omega arith) is

-- a value that is put at a place, and the others
pub put-here : (row : List Val) (i : ℕ) (v : Val) → i < length row → value_at_position (set row i v) i ≡ v
put-here [] i v within = absurd (omega arith)
put-here (first ∷ row) zero v within = refl
put-here (first ∷ row) (suc i) v within = put-here row i v (omega arith)

pub put-below : (row : List Val) (i k : ℕ) (v : Val) → k < i → value_at_position (set row i v) k ≡ value_at_position row k
put-below [] i k v before = refl
put-below (first ∷ row) zero k v before = absurd (omega arith)
put-below (first ∷ row) (suc i) zero v before = refl
put-below (first ∷ row) (suc i) (suc k) v before = put-below row i k v (omega arith)

pub put-above : (row : List Val) (i k : ℕ) (v : Val) → i < k → value_at_position (set row i v) k ≡ value_at_position row k
put-above [] i k v after = refl
put-above (first ∷ row) zero zero v after = absurd (omega arith)
put-above (first ∷ row) zero (suc k) v after = refl
put-above (first ∷ row) (suc i) zero v after = absurd (omega arith)
put-above (first ∷ row) (suc i) (suc k) v after = put-above row i k v (omega arith)

-- the operator's value, which fits
abbrev pub Is-pair : Op → List Val → List Val → ℕ → Val → Type 0
Is-pair operator values others place value = (valid value ≡ true) × (fits operator (pair_at values others place) ≡ true) × (value ≡ op_value operator (pair_at values others place))

-- the places below one have the operator's values, and the others what they had
pub record AreBelow (operator : Op) (values others now : List Val) (place : ℕ) : Type 0 where
  pub sized : length now ≡ length values
  pub done : (k : ℕ) → k < place → Is-pair operator values others k (value_at_position now k)
  pub left : (k : ℕ) → place ≤ k → value_at_position now k ≡ value_at_position values k

below-or : (j k : ℕ) → j < k + 1 → (j < k) ⊎ (j ≡ k)
below-or zero zero within = inr refl
below-or zero (suc k) within = inl (omega arith)
below-or (suc j) zero within = absurd (omega arith)
below-or (suc j) (suc k) within = elim (below-or j k (omega arith)) [ inl before ↦ inl (omega arith) | inr same ↦ inr (ap suc same) ]

pub below-none : (operator : Op) (values others : List Val) → AreBelow operator values others values 0
below-none operator values others = record { sized = refl; done = λ k within. absurd (omega arith); left = λ k within. refl }

pub below-next : (operator : Op) (values others now : List Val) (place : ℕ) (value : Val) → AreBelow operator values others now place → place < length now →
    Is-pair operator values others place value → AreBelow operator values others (set now place value) (place + 1)
below-next operator values others now place value below within is = record {
  sized = length-set now place value ∙ below.sized;
  done = λ k before. elim (below-or k place before) [
    | inl earlier ↦ let same = put-below now place k value earlier in rw same (below.done k earlier)
    | inr last ↦ let same = put-here now place value within in rw (last, same) is
  ];
  left = λ k after. put-above now place k value (omega arith) ∙ below.left k (omega arith);
}

pub below-all : (operator : Op) (values others now : List Val) (place : ℕ) → AreBelow operator values others now place → length values ≤ place → ArePairsApplied operator values others now
below-all operator values others now place below over = record { sized = below.sized; each = λ k within. below.done k (omega arith) }

pub first-unfit : (operator : Op) (values others now : List Val) (place : ℕ) → AreBelow operator values others now place → place < length values → fits operator (pair_at values others place) ≡ false → IsFirstUnfit operator values others place
first-unfit operator values others now place below within unfit = record { within = within; unfit = unfit; before = λ k before. (below.done k before).1 }

-- the pair of the place that is next, as it stands there
pub pair-here : {N : Type 0} (number : N → Val) (operator : Op) (values others now : List (Value N)) (place : ℕ) (a b : Value N) →
    AreBelow operator (vals_of number values) (vals_of number others) (vals_of number now) place → place < length now → a ≡ get_or now place a → place < length others → b ≡ get_or others place b →
    pair_at (vals_of number values) (vals_of number others) place ≡ val_of number a ∷ val_of number b ∷ []
pair-here number operator values others now place a b below within a_is among b_is =
    let first : value_at_position (vals_of number values) place ≡ val_of number a = sym (below.left place (omega arith)) ∙ value-at number now place a within a_is in
    let second : value_at_position (vals_of number others) place ≡ val_of number b = value-at number others place b among b_is in
    rw (first, second) refl

-- so many values as there were
pub still-sized : {N : Type 0} (number : N → Val) (operator : Op) (values others now : List (Value N)) (place : ℕ) → AreBelow operator (vals_of number values) (vals_of number others) (vals_of number now) place → length now ≡ length values
still-sized number operator values others now place below = sym (length-map now (val_of number)) ∙ below.sized ∙ length-map values (val_of number)

pub sorted-here : {N : Type 0} (number : N → Val) (operator : Op) (values others now : List (Value N)) (place : ℕ) (a b : Value N) →
    AreBelow operator (vals_of number values) (vals_of number others) (vals_of number now) place → place < length now → a ≡ get_or now place a → place < length others → b ≡ get_or others place b →
    ArePairsSorted operator (vals_of number values) (vals_of number others) → IsSorted operator (val_of number a ∷ val_of number b ∷ [])
sorted-here number operator values others now place a b below within a_is among b_is sorted =
    subst (IsSorted operator) (pair-here number operator values others now place a b below within a_is among b_is)
    (sorted place (omega (arith, below.sized, length-map now (val_of number))))

-- a value that the operator gives, put at the next place
pub next-put : {N : Type 0} (number : N → Val) (operator : Op) (values others now : List (Value N)) (place : ℕ) (a b value : Value N) →
    AreBelow operator (vals_of number values) (vals_of number others) (vals_of number now) place → place < length now → a ≡ get_or now place a → place < length others → b ≡ get_or others place b →
    (valid (val_of number value) ≡ true) × (fits operator (val_of number a ∷ val_of number b ∷ []) ≡ true) × (val_of number value ≡ op_value operator (val_of number a ∷ val_of number b ∷ [])) →
    AreBelow operator (vals_of number values) (vals_of number others) (vals_of number (set now place value)) (place + 1)
next-put number operator values others now place a b value below within a_is among b_is is =
    let pair = pair-here number operator values others now place a b below within a_is among b_is in
    let here : Is-pair operator (vals_of number values) (vals_of number others) place (val_of number value) = subst (λ both. (valid (val_of number value) ≡ true) × (fits operator both ≡ true) × (val_of number value ≡ op_value operator both)) (sym pair) is in
    rw (map-set (val_of number) now place value)
    (below-next operator (vals_of number values) (vals_of number others) (vals_of number now) place (val_of number value) below (omega (arith, length-map now (val_of number), within)) here)

-- the place where the operator doesn't fit
pub unfit-here : {N : Type 0} (number : N → Val) (operator : Op) (values others now : List (Value N)) (place : ℕ) (a b : Value N) →
    AreBelow operator (vals_of number values) (vals_of number others) (vals_of number now) place → place < length now → a ≡ get_or now place a → place < length others → b ≡ get_or others place b →
    fits operator (val_of number a ∷ val_of number b ∷ []) ≡ false → IsFirstUnfit operator (vals_of number values) (vals_of number others) place
unfit-here number operator values others now place a b below within a_is among b_is unfit =
    first-unfit operator (vals_of number values) (vals_of number others) (vals_of number now) place below (omega (arith, below.sized, length-map now (val_of number), within))
    (subst (λ both. fits operator both ≡ false) (sym (pair-here number operator values others now place a b below within a_is among b_is)) unfit)

-- all places done
pub all-put : {N : Type 0} (number : N → Val) (operator : Op) (values others now : List (Value N)) (place : ℕ) → AreBelow operator (vals_of number values) (vals_of number others) (vals_of number now) place → length now ≤ place →
    ArePairsApplied operator (vals_of number values) (vals_of number others) (vals_of number now)
all-put number operator values others now place below over =
    below-all operator (vals_of number values) (vals_of number others) (vals_of number now) place below (omega (arith, below.sized, length-map now (val_of number), over))
