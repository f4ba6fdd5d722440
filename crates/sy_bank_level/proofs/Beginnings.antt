-- Sizes of which nothing is kept.
use Rattle.std.proofs.Common.{◌≡◌, ℕ, zero, suc, List, [], ◌∷◌, ◌++◌, refl, arith, replicate}
use Rattle.std.specs.Prelude.{slice_index_or}
use Rattle.sy_bank_level.specs.Banks.{kept_at, kept_count, count_of}

no-list : {X : Type 0} (m n : ℕ) → slice_index_or {A = List X} (replicate n []) m [] ≡ []
no-list m zero = refl
no-list zero (suc n) = refl
no-list (suc m) (suc n) = no-list m n

pub kept_at-idle : {X : Type 0} (levels : List (List (List X))) (n m size : ℕ) → kept_at (levels ++ replicate n [] ∷ []) m size ≡ kept_at levels m size
kept_at-idle [] n m zero = no-list m n
kept_at-idle [] n m (suc size) = refl
kept_at-idle (level ∷ levels) n m zero = refl
kept_at-idle (level ∷ levels) n m (suc size) = kept_at-idle levels n m size

count_of-none : (X : Type 0) (width : ℕ) → count_of {X = X} (replicate width []) ≡ 0
count_of-none X zero = refl
count_of-none X (suc width) = omega (arith, count_of-none X width)

pub count-idle : {X : Type 0} (levels : List (List (List X))) (n : ℕ) → kept_count (levels ++ replicate n [] ∷ []) ≡ kept_count levels
count-idle {X} [] n = omega (arith, count_of-none X n)
count-idle (level ∷ levels) n = omega (arith, count-idle levels n)
