-- Looking for a row, place by place.
use Rattle.std.proofs.Common.{◌≡◌, ℕ, zero, suc, ◌+◌, List, [], ◌∷◌, ap, sym, ◌∙◌, Some, slice_get, take, arith, subst, ◌⊎◌, inl, inr}
use Rattle.std.specs.Prelude.{drop}
use Rattle.std.proofs.lemmas.Option.{none-some, same_Some}
use Rattle.sy_terms.specs.Values.{Val}
use Rattle.sy_bank_level.specs.Banks.{Entry}
use Rattle.sy_bank_level.specs.Filling.{RowIsThere, AreOther}
use Rattle.sy_bank_level.specs.declared.place.Place.{Place}

split-take : {X : Type 0} (xs : List X) (i j : ℕ) (x : X) → slice_get (take (suc i) xs) j ≡ Some x → (slice_get (take i xs) j ≡ Some x) ⊎ (slice_get xs i ≡ Some x)
split-take [] i j x at = absurd (none-some x at)
split-take (y ∷ xs) zero zero x at = inr at
split-take (y ∷ xs) zero (suc j) x at = absurd (none-some x at)
split-take (y ∷ xs) (suc i) zero x at = inl at
split-take (y ∷ xs) (suc i) (suc j) x at = split-take xs i j x at

split-more : {X : Type 0} (xs : List X) (i j : ℕ) (x : X) → slice_get (take (i + 1) xs) j ≡ Some x → (slice_get (take i xs) j ≡ Some x) ⊎ (slice_get xs i ≡ Some x)
split-more xs i j x at = let next : i + 1 ≡ suc i = omega arith in split-take xs i j x (ap (λ n. slice_get (take n xs) j) (sym next) ∙ at)

-- one place more, where no term with this row stands
pub other-more : (levels : List (List (List Entry))) (n : ℕ) (places : List Place) (i : ℕ) (place : Place) (row : List Val) → AreOther levels n (take i places) row →
    slice_get places i ≡ Some place → (RowIsThere levels n place row → ⊥) → AreOther levels n (take (i + 1) places) row
other-more levels n places i place row others here none j p e at same kept is = elim (split-more places i j p at) [
  | inl before ↦ others j p e before same kept is
  | inr last ↦
      let equal : p ≡ place = same_Some p place (sym last ∙ here) in
      none (subst (λ q. RowIsThere levels n q row) equal (record { entry = e; nonterminal_is = same; at = kept; row_is = is }))
]

-- the first place and the others
pub other-first : (levels : List (List (List Entry))) (n : ℕ) (places others : List Place) (first : Place) (row : List Val) → Some first ≡ slice_get places 0 → others ≡ drop 1 places →
    (RowIsThere levels n first row → ⊥) → AreOther levels n others row → AreOther levels n places row
other-first levels n [] others first row here rest none all i place e at same kept is = absurd (none-some place at)
other-first levels n (p ∷ places) others first row here rest none all zero place e at same kept is =
    let equal : place ≡ first = same_Some place first (sym at ∙ sym here) in
    none (subst (λ q. RowIsThere levels n q row) equal (record { entry = e; nonterminal_is = same; at = kept; row_is = is }))
other-first levels n (p ∷ places) others first row here rest none all (suc i) place e at same kept is =
    all i place e (ap (λ list. slice_get list i) rest ∙ at) same kept is
