-- Images of lists, and whether one of the first of them is this.
use Rattle.std.proofs.Common.{◌≡◌, ◌<◌, ◌+◌, ◌++◌, ◌∙◌, ⊎_elim, ap, refl, subst, ℕ, List, [], ◌∷◌, Some, length, map, take, get_or, slice_get}
use Rattle.std.specs.List.{Contains}
use Rattle.std.specs.Option.{option_map}
use Rattle.std.proofs.lemmas.List.{map_push, take_more}
use Rattle.std.proofs.lemmas.Option.{slice_get-map, slice_get_read}
use Rattle.std.proofs.lemmas.List.Elements.{Contains-push_cases}

-- what stands at a place of a list of images
pub image_at : {A B : Type 0} (f : A → B) (xs : List A) (k : ℕ) (x : A) → k < length xs → x ≡ get_or xs k x → slice_get (map f xs) k ≡ Some (f x)
image_at f xs k x within at = slice_get-map f xs k ∙ ap (option_map f) (slice_get_read xs (length xs) k x refl within at)

-- none of the first is this, nor is the next
pub none_yet : {A B : Type 0} (f : A → B) (xs : List A) (k : ℕ) (x : A) (y : B) → k < length xs → x ≡ get_or xs k x → (Contains (map f (take k xs)) y → ⊥) → (f x ≡ y → ⊥) → Contains (map f (take (k + 1) xs)) y → ⊥
none_yet f xs k x y within at none other is =
    let more : map f (take (k + 1) xs) ≡ map f (take k xs) ++ f x ∷ [] = rw (take_more xs k x within, ← at) (map_push f (take k xs) x) in
    ⊎_elim none other (Contains-push_cases (map f (take k xs)) (f x) y (subst (λ all. Contains all y) more is))
