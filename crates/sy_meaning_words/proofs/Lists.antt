-- Short lists, item by item.
use Rattle.std.specs.Prelude.{◌≡◌, ◌≤◌, ◌<◌, List, [], ◌∷◌, length, slice_index_or, ◌-◌, refl}
use Rattle.std.proofs.Common.{arith, ap, sym, take, drop}
use Rattle.std.proofs.lemmas.List.{take_all}

pub no_items : {X : Type 0} (xs : List X) → length xs < 1 → xs ≡ []
no_items [] h = refl
no_items (a ∷ r) h = absurd (omega arith)

pub one_item : {X : Type 0} (xs : List X) (x : X) → 1 ≤ length xs → length xs < 2 → x ≡ slice_index_or xs 0 x → xs ≡ x ∷ []
one_item [] x h k e = absurd (omega arith)
one_item (a ∷ []) x h k e = ap (λ y. y ∷ []) (sym e)
one_item (a ∷ b ∷ r) x h k e = absurd (omega arith)

pub two_items : {X : Type 0} (xs : List X) (x y : X) → 2 ≤ length xs → length xs < 3 → x ≡ slice_index_or xs 0 x → y ≡ slice_index_or xs 1 y → xs ≡ x ∷ y ∷ []
two_items [] x y h k e f = absurd (omega arith)
two_items (a ∷ []) x y h k e f = absurd (omega arith)
two_items (a ∷ b ∷ []) x y h k e f = cc
two_items (a ∷ b ∷ c ∷ r) x y h k e f = absurd (omega arith)

pub split_first : {X : Type 0} (xs : List X) (x : X) → 1 ≤ length xs → x ≡ slice_index_or xs 0 x → xs ≡ x ∷ take (length xs - 1) (drop 1 xs)
split_first [] x h e = absurd (omega arith)
split_first (a ∷ r) x h e = let all = take_all (length (a ∷ r) - 1) r (omega arith) in rw all (ap (λ y. y ∷ r) (sym e))
