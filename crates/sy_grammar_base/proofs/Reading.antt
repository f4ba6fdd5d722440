-- What a read of a list gives.
use Rattle.std.proofs.Common.{◌≡◌, ◌<◌, ◌≤◌, ℕ, List, length, get_or, Option, Some, None, slice_get, MatchOption, Bor, refl}
use Rattle.std.specs.Prelude.{IfSome}
use Rattle.std.proofs.lemmas.Option.{slice_get_read}

pub read_at : {X : Type 0} (r : Option (Bor X)) (xs : List X) (i : ℕ) (Q : Bor X → Type 0) → MatchOption r (length xs ≤ i) (λ x. (i < length xs) × Q x) → IfSome r (λ x. x.now ≡ get_or xs i x.now) →
    MatchOption r (length xs ≤ i) (λ x. slice_get xs i ≡ Some x.now)
read_at None xs i Q past same = past
read_at (Some x) xs i Q within same = slice_get_read xs (length xs) i x.now refl within.0 same
