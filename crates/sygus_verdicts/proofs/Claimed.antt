-- The problem and the statement at a place fit each other.
use Rattle.std.proofs.Common.{◌≡◌, refl, ap, subst, ℕ, zero, suc, List, [], ◌∷◌, length, Some}
use Rattle.std.specs.Prelude.{All, slice_get}
use Rattle.std.proofs.lemmas.List.Elements.{All-head, All-tail}
use Rattle.sy_terms.specs.declared.theory.Theory.{Ghosts as TheoryOf}
use Rattle.sy_grammar_base.specs.declared.problem.Problem.{Problem}
use Rattle.sy_reply.specs.Fitting.{IsStatedFor, AreStatedFor}
use Rattle.sy_reply.specs.declared.stated.Stated.{Stated}

-- what holds of each item holds of that at a place
pub holds_at : {X : Type 0} (P : X → Type 0) (xs : List X) (k : ℕ) (x : X) → slice_get xs k ≡ Some x → All P xs → P x
holds_at P [] k x at all = absurd cc
holds_at P (y ∷ ys) zero x at all = let same : y ≡ x = cc in subst P same (All-head P y ys all)
holds_at P (y ∷ ys) (suc k) x at all = holds_at P ys k x at (All-tail P y ys all)

module _ {T N : Type 0} (theory : TheoryOf T N) where
  pub stated_at : (problems : List (Problem T N)) (statements : List (Stated T N)) (k : ℕ) (problem : Problem T N) (stated : Stated T N) → slice_get problems k ≡ Some problem → slice_get statements k ≡ Some stated
      → AreStatedFor theory problems statements → IsStatedFor theory problem stated
  stated_at [] statements k problem stated here there all = absurd cc
  stated_at (p ∷ ps) [] k problem stated here there all = absurd cc
  stated_at (p ∷ ps) (s ∷ ss) zero problem stated here there all =
      let one : p ≡ problem = cc in
      let other : s ≡ stated = cc in
      subst (λ q. IsStatedFor theory q stated) one (subst (IsStatedFor theory p) other all.0)
  stated_at (p ∷ ps) (s ∷ ss) (suc k) problem stated here there all = stated_at ps ss k problem stated here there all.1

  -- there are as many
  pub stated_count : (problems : List (Problem T N)) (statements : List (Stated T N)) → AreStatedFor theory problems statements → length statements ≡ length problems
  stated_count [] [] all = refl
  stated_count [] (s ∷ ss) all = absurd all
  stated_count (p ∷ ps) [] all = absurd all
  stated_count (p ∷ ps) (s ∷ ss) all = ap suc (stated_count ps ss all.1)
