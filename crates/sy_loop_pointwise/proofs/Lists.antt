-- What stands in lists with one item more.
use Rattle.std.proofs.Common.{◌≡◌, ℕ, zero, suc, ◌+◌, ◌<◌, List, [], ◌∷◌, ◌++◌, length, refl, ap, subst, Some, slice_get, get_or, take, arith, ◌⊎◌, inl, inr}
use Rattle.std.specs.Prelude.{Contains}
use Rattle.std.proofs.lemmas.Option.{none-some}
use Rattle.std.proofs.lemmas.List.{take_more}
use Rattle.std.proofs.lemmas.List.Elements.{Contains-push_cases}

-- nothing stands in an empty list
pub in_nothing : {A : Type 0} (item : A) → (let items : List A = [] in Contains items item) → ⊥
in_nothing item found = omega (arith, found.1)

-- what stands in the first items and one more
pub in_more : (numbers : List ℕ) (i number : ℕ) → i < length numbers → Contains (take (i + 1) numbers) number → Contains (take i numbers) number ⊎ (get_or numbers i 0 ≡ number)
in_more numbers i number within found = Contains-push_cases (take i numbers) (get_or numbers i 0) number (subst (λ items. Contains items number) (take_more numbers i 0 within) found)

-- what stands at a place stays there
pub at_before : {A : Type 0} (items added : List A) (place : ℕ) (item : A) → slice_get items place ≡ Some item → slice_get (items ++ added) place ≡ Some item
at_before [] added place item at = absurd (none-some item at)
at_before (first ∷ items) added zero item at = at
at_before (first ∷ items) added (suc place) item at = at_before items added place item at

pub at_end : {A : Type 0} (items : List A) (item : A) → slice_get (items ++ item ∷ []) (length items) ≡ Some item
at_end [] item = refl
at_end (first ∷ items) item = at_end items item

-- what stands at a place with one item more stood there, or is that item
pub at_more : {A : Type 0} (items : List A) (last : A) (place : ℕ) (item : A) → slice_get (items ++ last ∷ []) place ≡ Some item → (slice_get items place ≡ Some item) ⊎ ((place ≡ length items) × (last ≡ item))
at_more [] last zero item at = inr (refl, cc)
at_more [] last (suc place) item at = absurd (none-some item at)
at_more (first ∷ items) last zero item at = inl at
at_more (first ∷ items) last (suc place) item at = elim (at_more items last place item at) [
  | inl before ↦ inl before
  | inr end ↦ inr (ap suc end.0, end.1)
]
