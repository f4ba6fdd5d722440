-- The assignments of an honest history are pairwise distinct.
use Rattle.std.specs.Prelude.{ℕ, zero, suc, ◌≡◌, ◌<◌, List, [], ◌∷◌, map, take, slice_get, Some, Contains, refl}
use Rattle.std.proofs.Common.{arith, ap, sym, subst, ◌∙◌}
use Rattle.std.proofs.lemmas.List.Elements.{All-contains}
use Rattle.std.proofs.lemmas.Option.{slice_get-get_or}
use Rattle.sy_terms.specs.Values.{Val}
use Rattle.sy_grammar_base.specs.Questions.{Question}
use Rattle.sy_grammar_base.specs.Solving.{Meets}
use Rattle.sy_points.specs.Asked.{AreDistinct}
use Rattle.sy_loop_spec.specs.declared.reach.Reach.{Reach}
use Rattle.sy_loop_spec.specs.Histories.{Counterexample, IsHonestHistory}

-- no assignment of a place is that of a place before it
abbrev Differ : List (List Val) → Type 0
Differ assignments = (earlier later : ℕ) (one other : List Val) → earlier < later → slice_get assignments earlier ≡ Some one → slice_get assignments later ≡ Some other → one ≡ other → ⊥

distinct : (assignments : List (List Val)) → Differ assignments → AreDistinct assignments
distinct [] differ = tt
distinct (first ∷ rest) differ = (
  λ again. differ 0 (suc again.0) first first (omega arith) refl (slice_get-get_or rest again.0 first again.1 ∙ ap Some again.2) refl,
  distinct rest (λ earlier later one other less at at'. differ (suc earlier) (suc later) one other (omega (arith, less)) at at'),
)

-- what stands before a place
before : {X : Type 0} (xs : List X) (earlier later : ℕ) (x : X) → earlier < later → slice_get xs earlier ≡ Some x → Contains (take later xs) x
before [] earlier later x less at = absurd (cc)
before (y ∷ xs) earlier zero x less at = absurd (omega (arith, less))
before (y ∷ xs) zero (suc later) x less at = let same : y ≡ x = cc in (0, omega arith, same)
before (y ∷ xs) (suc earlier) (suc later) x less at = let in_rest = before xs earlier later x (omega (arith, less)) at in (suc in_rest.0, omega (arith, in_rest.1), in_rest.2)

counterexample_at : (history : List Counterexample) (place : ℕ) (values : List Val) → slice_get (map (λ (c : Counterexample). c.assignment) history) place ≡ Some values → (c : Counterexample) × (slice_get history place ≡ Some c) × (c.assignment ≡ values)
counterexample_at [] place values at = absurd (cc)
counterexample_at (c ∷ history) zero values at = (c, refl, cc)
counterexample_at (c ∷ history) (suc place) values at = counterexample_at history place values at

pub assignments_differ : (reach : Reach) (question : Question) (size rounds : ℕ) (history : List Counterexample) → IsHonestHistory reach question size rounds history → AreDistinct (map (λ (c : Counterexample). c.assignment) history)
assignments_differ reach question size rounds history honest = distinct (map (λ (c : Counterexample). c.assignment) history) apart
  where
    apart : Differ (map (λ (c : Counterexample). c.assignment) history)
    apart earlier later one other less at at' same =
        let first = counterexample_at history earlier one at in
        let second = counterexample_at history later other at' in
        let next = honest.each later second.0 second.1 in
        let meets = All-contains (λ (c : Counterexample). Meets question second.0.bodies c.assignment) (take later history) first.0 next.due.meets (before history earlier later first.0 less first.1) in
        let meets' : Meets question second.0.bodies second.0.assignment = subst (Meets question second.0.bodies) (first.2 ∙ same ∙ sym second.2) meets in
        next.violates.1 (meets' next.violates.0)
