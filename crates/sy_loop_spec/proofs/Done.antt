-- What a search that ascends by sizes has done.
use Rattle.std.specs.Prelude.{ℕ, zero, suc, ◌+◌, ◌≡◌, ◌<◌, ◌≤◌, ◌⊎◌, List, refl}
use Rattle.std.proofs.Common.{ap, subst, arith, ⊎_elim, inl, inr}
use Rattle.sy_grammar_base.specs.Questions.{Question}
use Rattle.sy_grammar_base.specs.Solving.{AreWithin}
use Rattle.sy_points.specs.Asked.{Asked}
use Rattle.sy_loop_spec.specs.Bounds.{IsJoinedWithin}
use Rattle.sy_loop_spec.specs.declared.reach.Reach.{Reach}
use Rattle.sy_loop_spec.specs.declared.reach.Reach.TheVariants.{Sizes, Joins}
use Rattle.sy_loop_spec.specs.Adding.{KnownGrows}
use Rattle.sy_loop_spec.specs.Histories.{AllViolate, AreViolatedBelow, Counterexample, IsHonestHistory, IsOpenNumber}
use Rattle.sy_loop_spec.proofs.Staying.{below_stays}
use Rattle.sy_loop_spec.specs.Unsolved.{NoSolutionWithin}
use Rattle.sy_loop_spec.specs.Refuting.{AllRefuted, AllTreesViolate, AreDoneBelow}
use Rattle.sy_loop_spec.proofs.Refuted.{violated_in, stays_refuted, all_violate, no_solution_within}

none_below : (reach : Reach) (question : Question) (history : List Counterexample) → AreViolatedBelow reach question history 0
none_below reach question history = λ m less. absurd (omega (arith, less))

pub begins : (reach : Reach) (question : Question) (history : List Counterexample) (asked : Asked) → AreDoneBelow reach question history asked 0
begins reach question history asked = record { refuted = λ m less. absurd (omega (arith, less)); violated = none_below reach question history }

before_or_at : (m n : ℕ) → m < n + 1 → (m < n) ⊎ (n ≡ m)
before_or_at zero zero less = inr refl
before_or_at zero (suc n) less = inl (omega arith)
before_or_at (suc m) zero less = absurd (omega (arith, less))
before_or_at (suc m) (suc n) less = ⊎_elim (λ (before : m < n). inl (omega (arith, before))) (λ (same : n ≡ m). inr (ap suc same)) (before_or_at m n (omega (arith, less)))

module _ (question : Question) (history : List Counterexample) (asked : Asked) (n : ℕ) where
  -- what holds below n, and at n, holds below n + 1
  up_to : (P : ℕ → Type 0) → ((m : ℕ) → m < n → P m) → P n → (m : ℕ) → m < n + 1 → P m
  up_to P below at m less = ⊎_elim (λ (before : m < n). below m before) (λ (same : n ≡ m). subst P same at) (before_or_at m n less)

  below_next : (reach : Reach) → AllRefuted question history asked n → AllTreesViolate reach question history n → AreViolatedBelow reach question history n → AreViolatedBelow reach question history (n + 1)
  below_next Sizes all trees below = up_to (AllViolate Sizes question history) below (all_violate question history asked n all)
  below_next Joins all trees below = up_to (AllViolate Joins question history) below
      (λ bodies bound. ⊎_elim
      (λ (within : AreWithin question.pool n question.goals bodies). violated_in question history asked bodies (all bodies within))
      (λ (joined : IsJoinedWithin question n bodies). trees bodies joined)
      bound)

  pub next : (reach : Reach) → AllRefuted question history asked n → AllTreesViolate reach question history n → AreDoneBelow reach question history asked n → AreDoneBelow reach question history asked (n + 1)
  next reach all trees done = record {
    refuted = up_to (AllRefuted question history asked) done.refuted all;
    violated = below_next reach all trees done.violated;
  }

pub stays : (reach : Reach) (question : Question) (history history' : List Counterexample) (asked asked' : Asked) (n : ℕ) → KnownGrows history asked history' asked' → AreDoneBelow reach question history asked n → AreDoneBelow reach question history' asked' n
stays reach question history history' asked asked' n grows done = record {
  refuted = λ m less bodies within. stays_refuted question history history' asked asked' bodies grows (done.refuted m less bodies within);
  violated = below_stays question history history' grows.stored reach n done.violated;
}

pub opens : (reach : Reach) (question : Question) (size n : ℕ) (history : List Counterexample) (asked : Asked) → n ≤ size → AreDoneBelow reach question history asked n → IsOpenNumber reach question size history n
opens reach question size n history asked small done = record { within = small; below = done.violated }

pub ends : (reach : Reach) (question : Question) (size rounds n : ℕ) (history : List Counterexample) (asked : Asked) → IsHonestHistory reach question size rounds history →
    AreDoneBelow reach question history asked (n + 1) → NoSolutionWithin reach question n
ends reach question size rounds n history asked honest done =
    no_solution_within reach question size rounds n history honest (done.violated n (omega arith))
