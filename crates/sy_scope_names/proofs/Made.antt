-- Lists that are seen alike, with one more each.
use Rattle.std.specs.Prelude.{ℕ, ◌+◌, ◌<◌, ◌≤◌, List, [], ◌∷◌, ◌++◌, map, length, ◌≡◌, refl}
use Rattle.std.proofs.Common.{ap, sym, ◌∙◌, get_or, take}
use Rattle.std.proofs.lemmas.List.{take_more, take_all}

map_last : {A B : Type 0} (f : A → B) (xs : List A) (x : A) → map f (xs ++ x ∷ []) ≡ map f xs ++ f x ∷ []
map_last f [] x = refl
map_last f (y ∷ xs) x = ap (λ rest. f y ∷ rest) (map_last f xs x)

-- what was taken, with one more
taken_last : {A : Type 0} (xs : List A) (i : ℕ) (x : A) → i < length xs → x ≡ get_or xs i x → take (i + 1) xs ≡ take i xs ++ x ∷ []
taken_last xs i x within read = take_more xs i x within ∙ ap (λ y. take i xs ++ y ∷ []) (sym read)

pub more_alike : {A C D : Type 0} (h : D → C) (f : A → C) (now done : List D) (d : D) (xs : List A) (i : ℕ) (x : A) → now ≡ done ++ d ∷ [] → i < length xs → x ≡ get_or xs i x → map h done ≡ map f (take i xs) → h d ≡ f x
    → map h now ≡ map f (take (i + 1) xs)
more_alike h f now done d xs i x is within read same alike =
    ap (map h) is ∙ map_last h done d ∙ (λ k. same k ++ alike k ∷ []) ∙ sym (ap (map f) (taken_last xs i x within read) ∙ map_last f (take i xs) x)

-- where no more is left, all is made
pub all_alike : {A C : Type 0} (f : A → C) (made : List C) (xs : List A) (i : ℕ) → length xs ≤ i → made ≡ map f (take i xs) → made ≡ map f xs
all_alike f made xs i past same = same ∙ ap (map f) (take_all i xs past)
