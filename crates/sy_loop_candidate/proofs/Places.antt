-- What holds at the places of a list from one on and before another.
use Rattle.std.proofs.Common.{◌≡◌, ◌<◌, ◌≤◌, ◌+◌, ap, sym, subst, ◌∙◌, ⊎_elim, ℕ, List, length, map, get_or, arith}
use Rattle.std.specs.Prelude.{Option, Some, None, MatchOption}
use Rattle.std.specs.List.{All, AllWithin}
use Rattle.std.proofs.lemmas.Bool.{cases_lt}
use Rattle.std.proofs.lemmas.List.{get_or-map}
use Rattle.std.proofs.lemmas.List.Elements.{AllWithin-more}

-- one place more
pub within_more : {A B : Type 0} (P : B → Type 0) (f : A → B) (xs : List A) (from k : ℕ) (x : A) → k < length xs → x ≡ get_or xs k x → AllWithin P (map f xs) from k → P (f x) → AllWithin P (map f xs) from (k + 1)
within_more P f xs from k x lt at all has = AllWithin-more P (map f xs) from k all (λ d. subst P (ap f at ∙ sym (get_or-map f xs k x d lt)) has)

-- the places from a first one on, and those before it
pub all_both : {A : Type 0} (P : A → Type 0) (xs : List A) (first last : ℕ) → length xs ≤ last → AllWithin P xs first last → AllWithin P xs 0 first → All P xs
all_both P xs first last long after before k d lt =
    ⊎_elim (λ (below : k < first). before k d (omega arith) below) (λ (above : first ≤ k). after k d above (omega (arith, lt, long))) (cases_lt k first)

-- what follows from what was found, and from there being nothing
pub found_either : {X N M : Type 0} {P Q : X → Type 0} (found : Option X) → (N → M) → ((x : X) → P x → Q x) → MatchOption found N P → MatchOption found M Q
found_either None none some is = none is
found_either (Some x) none some is = some x is
