-- Two lists of values that compare as equal stand for the same.
use Rattle.std.proofs.Common.{◌≡◌, refl, ap, sym, ◌∙◌, map, List, [], ◌∷◌, Bool, true, false, ◌&&◌, ◌≢◌, arith, ◌↔◌}
use mathlib.Core.Bool.{true≢false}
use Rattle.std.specs.Cmp.{first_so, second_so}
use Rattle.std.specs.Cmp.Lexicographic.{pointwise}
use Rattle.sy_terms.specs.Values as values
use Rattle.sy_terms.specs.Values.{Val}
use Rattle.sy_terms.specs.Denoted.{val_of}
use Rattle.sy_terms.specs.declared.sort.Value.{Value}
use Rattle.sy_terms.specs.declared.sort.Value.TheVariants.{Truth, Num}

-- the comparison holds exactly between what stands for the same
pub record IsExact {X Y : Type 0} (f : X → Y) (equal : X → X → Bool) : Type 0 where
  pub same : (x y : X) → equal x y ≡ true → f x ≡ f y
  pub found : (x y : X) → f x ≡ f y → equal x y ≡ true

pub exact_at : {X Y : Type 0} {f : X → Y} {equal : X → X → Bool} → IsExact f equal → (x y : X) → (equal x y ≡ true) ↔ (f x ≡ f y)
exact_at exact x y = (exact.same x y, exact.found x y)

module _ {X Y : Type 0} {f : X → Y} {equal : X → X → Bool} (exact : IsExact f equal) where
  same_lists : (xs ys : List X) → pointwise equal xs ys ≡ true → map f xs ≡ map f ys
  same_lists [] [] e = refl
  same_lists [] (y ∷ ys) e = absurd (true≢false (sym e))
  same_lists (x ∷ xs) [] e = absurd (true≢false (sym e))
  same_lists (x ∷ xs) (y ∷ ys) e =
      let first = exact.same x y (first_so (equal x y) (pointwise equal xs ys) e) in
      let rest = same_lists xs ys (second_so (equal x y) (pointwise equal xs ys) e) in
      λ i. first i ∷ rest i

  found_lists : (xs ys : List X) → map f xs ≡ map f ys → pointwise equal xs ys ≡ true
  found_lists [] [] e = refl
  found_lists [] (y ∷ ys) e = absurd (grind arith)
  found_lists (x ∷ xs) [] e = absurd (grind arith)
  found_lists (x ∷ xs) (y ∷ ys) e =
      let first = exact.found x y (grind arith) in
      let rest = found_lists xs ys (grind arith) in
      λ i. first i && rest i

  pub exact_lists : (xs ys : List X) → (pointwise equal xs ys ≡ true) ↔ (map f xs ≡ map f ys)
  exact_lists xs ys = (same_lists xs ys, found_lists xs ys)

-- a comparison of values by one of numbers
pub exact_values : {N : Type 0} {number : N → Val} {equal : N → N → Bool} {compared : Value N → Value N → Bool} →
    IsExact number equal →
    ((n : N) (b : Bool) → number n ≢ values.Truth b) →
    (compared (Truth true) (Truth true) ≡ true) →
    (compared (Truth false) (Truth false) ≡ true) →
    (compared (Truth true) (Truth false) ≡ false) →
    (compared (Truth false) (Truth true) ≡ false) →
    ((b : Bool) (n : N) → compared (Truth b) (Num n) ≡ false) →
    ((n : N) (b : Bool) → compared (Num n) (Truth b) ≡ false) →
    ((m n : N) → compared (Num m) (Num n) ≡ equal m n) →
    IsExact (val_of number) compared
exact_values {N} {number} {equal} {compared} exact no_truth tt' ff tf ft bn nb nn = record { same = same; found = found }
  where
    same : (x y : Value N) → compared x y ≡ true → val_of number x ≡ val_of number y
    same (Truth true) (Truth true) e = refl
    same (Truth false) (Truth false) e = refl
    same (Truth true) (Truth false) e = absurd (true≢false (sym e ∙ tf))
    same (Truth false) (Truth true) e = absurd (true≢false (sym e ∙ ft))
    same (Truth b) (Num n) e = absurd (true≢false (sym e ∙ bn b n))
    same (Num n) (Truth b) e = absurd (true≢false (sym e ∙ nb n b))
    same (Num m) (Num n) e = exact.same m n (sym (nn m n) ∙ e)

    found : (x y : Value N) → val_of number x ≡ val_of number y → compared x y ≡ true
    found (Truth true) (Truth true) e = tt'
    found (Truth false) (Truth false) e = ff
    found (Truth true) (Truth false) e = absurd (true≢false (ap values.truth e))
    found (Truth false) (Truth true) e = absurd (true≢false (sym (ap values.truth e)))
    found (Truth b) (Num n) e = absurd (no_truth n b (sym e))
    found (Num n) (Truth b) e = absurd (no_truth n b e)
    found (Num m) (Num n) e = nn m n ∙ exact.found m n e
