-- A set of values, compared by a machine, and what they stand for.
use Rattle.std.proofs.Common.{◌≡◌, ℕ, ◌∙◌, sym, List, [], ◌∷◌, ◌++◌, map, refl, ap, arith, Bool, true, false, cond, ◌≢◌}
use Rattle.std.specs.Prelude.{◌||◌, ◌==◌, ◌&&◌}
use mathlib.Core.Bool.{true≢false}
use Rattle.std.specs.List.{list_any}
use Rattle.std.proofs.lemmas.Bool.{eqb-true}
use Rattle.std.proofs.lemmas.Bool.Decides.{Decides-int_eq}
use Rattle.sy_terms.specs.Values.{Val, Truth, Whole, Bits, same}
use Rattle.sy_terms.specs.Values as values
use Rattle.sy_terms.specs.Denoted.{val_of}
use Rattle.sy_terms.specs.declared.sort.Value.{Value}
use Rattle.sy_terms.specs.declared.sort.Value.TheVariants as variants
use Rattle.sy_terms.specs.declared.sort.Value.TheVariants.{Num}
use Rattle.sy_scope_names.specs.Pools.{with_value}

-- the comparison holds exactly between what stands for the same
pub record IsExact {X Y : Type 0} (f : X → Y) (equal : X → X → Bool) : Type 0 where
  pub same : (x y : X) → equal x y ≡ true → f x ≡ f y
  pub found : (x y : X) → f x ≡ f y → equal x y ≡ true

-- a comparison of values by one of numbers
pub exact_values : {N : Type 0} {number : N → Val} {equal : N → N → Bool} {compared : Value N → Value N → Bool} →
    IsExact number equal →
    ((n : N) (b : Bool) → number n ≢ Truth b) →
    (compared (variants.Truth true) (variants.Truth true) ≡ true) →
    (compared (variants.Truth false) (variants.Truth false) ≡ true) →
    (compared (variants.Truth true) (variants.Truth false) ≡ false) →
    (compared (variants.Truth false) (variants.Truth true) ≡ false) →
    ((b : Bool) (n : N) → compared (variants.Truth b) (Num n) ≡ false) →
    ((n : N) (b : Bool) → compared (Num n) (variants.Truth b) ≡ false) →
    ((m n : N) → compared (Num m) (Num n) ≡ equal m n) →
    IsExact (val_of number) compared
exact_values {N} {number} {equal} {compared} exact no_truth tt' ff tf ft bn nb nn = record { same = same; found = found }
  where
    same : (x y : Value N) → compared x y ≡ true → val_of number x ≡ val_of number y
    same (variants.Truth true) (variants.Truth true) e = refl
    same (variants.Truth false) (variants.Truth false) e = refl
    same (variants.Truth true) (variants.Truth false) e = absurd (true≢false (sym e ∙ tf))
    same (variants.Truth false) (variants.Truth true) e = absurd (true≢false (sym e ∙ ft))
    same (variants.Truth b) (Num n) e = absurd (true≢false (sym e ∙ bn b n))
    same (Num n) (variants.Truth b) e = absurd (true≢false (sym e ∙ nb n b))
    same (Num m) (Num n) e = exact.same m n (sym (nn m n) ∙ e)

    found : (x y : Value N) → val_of number x ≡ val_of number y → compared x y ≡ true
    found (variants.Truth true) (variants.Truth true) e = tt'
    found (variants.Truth false) (variants.Truth false) e = ff
    found (variants.Truth true) (variants.Truth false) e = absurd (true≢false (ap values.truth e))
    found (variants.Truth false) (variants.Truth true) e = absurd (true≢false (sym (ap values.truth e)))
    found (variants.Truth b) (Num n) e = absurd (no_truth n b (sym e))
    found (Num n) (variants.Truth b) e = absurd (no_truth n b e)
    found (Num m) (Num n) e = nn m n ∙ exact.found m n e

both_true : (a b : Bool) → (a && b) ≡ true → (a ≡ true) × (b ≡ true)
both_true true b e = (refl, e)
both_true false b e = absurd cc

-- values that compare as the same are the same
same_is : (x y : Val) → same x y ≡ true → x ≡ y
same_is (Truth true) (Truth true) e = refl
same_is (Truth false) (Truth false) e = refl
same_is (Truth true) (Truth false) e = absurd cc
same_is (Truth false) (Truth true) e = absurd cc
same_is (Whole a) (Whole b) e = ap Whole ((Decides-int_eq a b).0 e)
same_is (Bits v m) (Bits w n) e =
    let both = both_true (v == w) (m == n) e in
    let widths = eqb-true v w both.0 in
    let numbers = eqb-true m n both.1 in
    λ i. Bits (widths i) (numbers i)
same_is (Truth a) (Whole b) e = absurd cc
same_is (Truth a) (Bits w n) e = absurd cc
same_is (Whole a) (Truth b) e = absurd cc
same_is (Whole a) (Bits w n) e = absurd cc
same_is (Bits v m) (Truth b) e = absurd cc
same_is (Bits v m) (Whole b) e = absurd cc

again : (n : ℕ) → (n == n) ≡ true
again n = grind arith

same_again : (x : Val) → same x x ≡ true
same_again (Truth true) = refl
same_again (Truth false) = refl
same_again (Whole a) = (Decides-int_eq a a).1 refl
same_again (Bits w n) = λ i. again w i && again n i

same_bool : (a b : Bool) → (a ≡ true → b ≡ true) → (b ≡ true → a ≡ true) → a ≡ b
same_bool true true to from = refl
same_bool true false to from = absurd (let h = to refl in cc)
same_bool false true to from = absurd (let h = from refl in cc)
same_bool false false to from = refl

module _ {X : Type 0} {f : X → Val} {equal : X → X → Bool} (exact : IsExact f equal) where
  compared : (x y : X) → equal x y ≡ same (f x) (f y)
  compared x y = same_bool (equal x y) (same (f x) (f y))
      (λ e. ap (same (f x)) (sym (exact.same x y e)) ∙ same_again (f x))
      (λ e. exact.found x y (same_is (f x) (f y) e))

  any_compared : (x : X) (xs : List X) → list_any (equal x) xs ≡ list_any (same (f x)) (map f xs)
  any_compared x [] = refl
  any_compared x (y ∷ xs) = let first = compared x y in let rest = any_compared x xs in λ i. first i || rest i

  mapped_end : (xs : List X) (x : X) → map f (xs ++ x ∷ []) ≡ map f xs ++ f x ∷ []
  mapped_end [] x = refl
  mapped_end (y ∷ xs) x = ap (λ ys. f y ∷ ys) (mapped_end xs x)

  chosen : (b : Bool) (x : X) (xs : List X) → map f (cond b xs (xs ++ x ∷ [])) ≡ cond b (map f xs) (map f xs ++ f x ∷ [])
  chosen true x xs = refl
  chosen false x xs = mapped_end xs x

  -- the set with one value more
  pub added : (x : X) (xs : List X) → map f (cond (list_any (equal x) xs) xs (xs ++ x ∷ [])) ≡ with_value (map f xs) (f x)
  added x xs = chosen (list_any (equal x) xs) x xs ∙ ap (λ b. cond b (map f xs) (map f xs ++ f x ∷ [])) (any_compared x xs)
