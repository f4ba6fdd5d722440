-- What is kept with one size more.
use Rattle.std.proofs.Common.{◌≡◌, ℕ, List, [], ◌∷◌, ◌++◌, ap, ◌∙◌, Some, slice_get}
use Rattle.sy_bank_level.specs.Banks.{Entry, kept_at, IsKept}
use Rattle.sy_bank_level.proofs.KeptLaws.{kept_at-before, size-within}

-- kept terms stay where they stand
pub stays-more : {X : Type 0} (levels : List (List (List X))) (lists : List (List X)) (n size place : ℕ) (x : X) → slice_get (kept_at levels n size) place ≡ Some x → slice_get (kept_at (levels ++ lists ∷ []) n size) place ≡ Some x
stays-more {X} levels lists n size place x at =
    let within = size-within levels n size place x at in
    ap (λ (list : List X). slice_get list place) (kept_at-before levels lists n size within) ∙ at

pub kept-more : (levels : List (List (List Entry))) (lists : List (List Entry)) (n : ℕ) (entry : Entry) → IsKept levels n entry → IsKept (levels ++ lists ∷ []) n entry
kept-more levels lists n entry kept = record { size = kept.size; place = kept.place; at = stays-more levels lists n kept.size kept.place entry kept.at }
