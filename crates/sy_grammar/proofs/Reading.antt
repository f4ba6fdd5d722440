-- What a read of a list gives, of what its items are seen as.
use Rattle.std.proofs.Common.{◌≡◌, ◌<◌, ◌≤◌, ℕ, List, length, map, get_or, Option, Some, None, slice_get, MatchOption, Bor, refl, sym, ap, ◌∙◌, arith}
use Rattle.std.specs.Prelude.{IfSome}
use Rattle.std.specs.Option.{option_map}
use Rattle.std.proofs.lemmas.List.{length-map}
use Rattle.std.proofs.lemmas.Option.{slice_get_read, slice_get_past, slice_get-map}

pub read_as : {X Y : Type 0} (f : X → Y) (r : Option (Bor X)) (xs : List X) (i : ℕ) (Q : Bor X → Type 0) → MatchOption r (length xs ≤ i) (λ x. (i < length xs) × Q x) → IfSome r (λ x. x.now ≡ get_or xs i x.now) →
    option_map (λ (x : Bor X). f x.now) r ≡ slice_get (map f xs) i
read_as f None xs i Q past same = sym (slice_get_past (map f xs) i (omega (arith, length-map xs f, past)))
read_as f (Some x) xs i Q within same = sym (slice_get-map f xs i ∙ ap (option_map f) (slice_get_read xs (length xs) i x.now refl within.0 same))
