-- Membership in a list of values.
use Rattle.std.proofs.Common.{◌≡◌, ℕ, zero, suc, ◌∙◌, List, [], ◌∷◌, ◌++◌, refl, ap, arith, Bool, true, false, Some, slice_get}
use Rattle.std.specs.Prelude.{map, ◌||◌, ◌==◌, ◌&&◌}
use Rattle.std.specs.List.{list_any}
use Rattle.std.proofs.lemmas.Bool.{eqb-true}
use Rattle.std.proofs.lemmas.Bool.Decides.{Decides-int_eq}
use Rattle.sy_terms.specs.Values.{Val, Truth, Whole, Bits, same}

pub both_true : (a b : Bool) → (a && b) ≡ true → (a ≡ true) × (b ≡ true)
both_true true b e = (refl, e)
both_true false b e = absurd cc

-- values that compare as the same are the same
pub same_is : (x y : Val) → same x y ≡ true → x ≡ y
same_is (Truth true) (Truth true) e = refl
same_is (Truth false) (Truth false) e = refl
same_is (Truth true) (Truth false) e = absurd cc
same_is (Truth false) (Truth true) e = absurd cc
same_is (Whole a) (Whole b) e = ap Whole ((Decides-int_eq a b).0 e)
same_is (Bits v m) (Bits w n) e =
    let both = both_true (v == w) (m == n) e in
    let widths = eqb-true v w both.0 in
    let numbers = eqb-true m n both.1 in
    λ i. Bits (widths i) (numbers i)
same_is (Truth a) (Whole b) e = absurd cc
same_is (Truth a) (Bits w n) e = absurd cc
same_is (Whole a) (Truth b) e = absurd cc
same_is (Whole a) (Bits w n) e = absurd cc
same_is (Bits v m) (Truth b) e = absurd cc
same_is (Bits v m) (Whole b) e = absurd cc

again : (n : ℕ) → (n == n) ≡ true
again n = grind arith

pub same_again : (x : Val) → same x x ≡ true
same_again (Truth true) = refl
same_again (Truth false) = refl
same_again (Whole a) = (Decides-int_eq a a).1 refl
same_again (Bits w n) = λ i. again w i && again n i

either : (a b : Bool) → b ≡ true → (a || b) ≡ true
either true b e = refl
either false b e = e

-- some item passes
pub any_at : {A B : Type 0} (test : B → Bool) (view : A → B) (items : List A) (i : ℕ) (x : A) → slice_get items i ≡ Some x → test (view x) ≡ true → list_any test (map view items) ≡ true
any_at test view [] i x at holds = absurd cc
any_at test view (y ∷ items) zero x at holds =
    let is : y ≡ x = cc in
    ap (λ z. test (view z) || list_any test (map view items)) is ∙ ap (λ b. b || list_any test (map view items)) holds
any_at test view (y ∷ items) (suc i) x at holds = either (test (view y)) (list_any test (map view items)) (any_at test view items i x at holds)

-- one more that doesn't
pub none_more : {A B : Type 0} (test : B → Bool) (view : A → B) (items : List A) (x : A) → list_any test (map view items) ≡ false → test (view x) ≡ false → list_any test (map view (items ++ x ∷ [])) ≡ false
none_more test view [] x none fails = ap (λ b. b || false) fails
none_more test view (y ∷ items) x none fails = split (test (view y)) (list_any test (map view items)) _ none (λ rest. none_more test view items x rest fails)
  where
    split : (a b c : Bool) → (a || b) ≡ false → (b ≡ false → c ≡ false) → (a || c) ≡ false
    split true b c e h = absurd cc
    split false b c e h = h e
