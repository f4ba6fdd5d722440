-- One step of a comparison of neighbours.
use Rattle.std.specs.Prelude.{ℕ, ◌+◌, ◌≤◌, ℤ, Bool, true, false, ◌&&◌, List, [], ◌∷◌, length, ◌≡◌, refl}
use Rattle.std.proofs.Common.{drop, ap, ◌∙◌, sym}
use Rattle.std.proofs.lemmas.List.{drop_all}
use Rattle.sy_terms.specs.Values.{Val, Whole, whole, neighbours}
use Rattle.sy_terms.specs.Denoted.{val_of, vals_of}
use Rattle.sy_terms.specs.declared.sort.Value.{Value}
use Rattle.sy_meaning_integers.proofs.Folds.{At, item, drop-step}

-- the relation of the whole numbers that values are
abbrev pub on : (ℤ → ℤ → Bool) → Val → Val → Bool
on related x y = related (whole x) (whole y)

-- what is left of the comparison
pub record Rest (related : ℤ → ℤ → Bool) (first : ℤ) (all : List (Value ℤ)) (last : ℤ) (rest : List (Value ℤ)) : Type 0 where
  pub is : neighbours (on related) (Whole first ∷ vals_of Whole all) ≡ neighbours (on related) (Whole last ∷ vals_of Whole rest)

-- a value stands to the next as its whole number does
as-whole : (related : ℤ → ℤ → Bool) (v : Val) (rest : List Val) → neighbours (on related) (v ∷ rest) ≡ neighbours (on related) (Whole (whole v) ∷ rest)
as-whole related v [] = refl
as-whole related v (w ∷ rest) = refl

and-true : (a b c : Bool) → a ≡ true → b ≡ c → (a && b) ≡ c
and-true true b c e h = h
and-true false b c e h = cc

and-false : (a b : Bool) → a ≡ false → (a && b) ≡ false
and-false true b e = cc
and-false false b e = refl

-- the related neighbours
pub order-true : (related : ℤ → ℤ → Bool) (first : ℤ) (all : List (Value ℤ)) (last : ℤ) (i : ℕ) (x y next : ℤ) → Rest related first all last (drop i all) → At all last i x y → related x y ≡ true → next ≡ y → Rest related first all next (drop (i + 1) all)
order-true related first all last i x y next left at holds same =
    let v = val_of Whole (item all i) in
    let rest = vals_of Whole (drop (i + 1) all) in
    let test : related last (whole v) ≡ true = ap (λ a. related a (whole v)) (sym at.left_is) ∙ ap (related x) (sym at.right_is) ∙ holds in
    record {
      is = left.is ∙ ap (λ l. neighbours (on related) (Whole last ∷ vals_of Whole l)) (drop-step all i at.less)
          ∙ and-true (related last (whole v)) (neighbours (on related) (v ∷ rest)) (neighbours (on related) (Whole next ∷ rest)) test
          (as-whole related v rest ∙ ap (λ z. neighbours (on related) (Whole z ∷ rest)) (sym (same ∙ at.right_is)));
    }

-- those that are not
pub order-false : (related : ℤ → ℤ → Bool) (first : ℤ) (all : List (Value ℤ)) (last : ℤ) (i : ℕ) (x y : ℤ) → Rest related first all last (drop i all) → At all last i x y → related x y ≡ false → false ≡ neighbours (on related) (Whole first ∷ vals_of Whole all)
order-false related first all last i x y left at holds =
    let v = val_of Whole (item all i) in
    let rest = vals_of Whole (drop (i + 1) all) in
    let test : related last (whole v) ≡ false = ap (λ a. related a (whole v)) (sym at.left_is) ∙ ap (related x) (sym at.right_is) ∙ holds in
    sym (left.is ∙ ap (λ l. neighbours (on related) (Whole last ∷ vals_of Whole l)) (drop-step all i at.less) ∙ and-false (related last (whole v)) (neighbours (on related) (v ∷ rest)) test)

-- the end
pub order-done : (related : ℤ → ℤ → Bool) (first : ℤ) (all : List (Value ℤ)) (last : ℤ) (i : ℕ) → Rest related first all last (drop i all) → length all ≤ i → true ≡ neighbours (on related) (Whole first ∷ vals_of Whole all)
order-done related first all last i left done = sym (left.is ∙ ap (λ l. neighbours (on related) (Whole last ∷ vals_of Whole l)) (drop_all i all done))

-- the whole list
pub order-of : (related : ℤ → ℤ → Bool) (v : Val) (rest : List Val) (first : ℤ) → first ≡ whole v → neighbours (on related) (Whole first ∷ rest) ≡ neighbours (on related) (v ∷ rest)
order-of related v rest first is = ap (λ z. neighbours (on related) (Whole z ∷ rest)) is ∙ sym (as-whole related v rest)
