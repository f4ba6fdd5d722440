-- When one tuple or one constraint shows that a body violates the problem at an assignment of an honest history.
use Rattle.std.specs.Prelude.{ℕ, zero, suc, ◌≡◌, List, [], ◌∷◌, map, take, get_or, Some, Contains, All, refl}
use Rattle.std.proofs.Common.{arith, ap, sym, ◌∙◌, subst}
use Rattle.std.proofs.lemmas.Option.{slice_get-get_or}
use Rattle.std.proofs.lemmas.List.Elements.{All-contains, Contains-get_or}
use Rattle.sy_terms.specs.Values.{Val}
use Rattle.sy_terms.specs.Expr.{Expr}
use Rattle.sy_terms.specs.Meaning.{function_from, functions}
use Rattle.sy_grammar_base.specs.Questions.{Question}
use Rattle.sy_grammar_base.specs.Solving.{AreValues, IsTrueUnder}
use Rattle.sy_loop_spec.specs.Resting.{IsBadAt}
use Rattle.sy_loop_spec.specs.declared.reach.Reach.{Reach}
use Rattle.sy_loop_spec.proofs.Applied.{in_nothing}
use Rattle.sy_loop_spec.specs.Histories.{Counterexample, IsHonestHistory, IsNextCounterexample, IsViolatedIn}
use Rattle.sy_loop_spec.specs.Agreeing.{AssumptionsAskNothing}
use Rattle.sy_terms_operators.proofs.Agreement.{same_under}
use Rattle.sy_loop_spec.specs.Goods.{assignments_of}

pub from_map : {A B : Type 0} (f : A → B) (xs : List A) (y : B) → Contains (map f xs) y → (x : A) × Contains xs x × (f x ≡ y)
from_map f [] y (k, less, at) = absurd (omega (arith, less))
from_map f (x ∷ xs) y (zero, less, at) = (x, (0, omega arith, refl), at)
from_map f (x ∷ xs) y (suc k, less, at) =
    let below = from_map f xs y (k, omega (arith, less), at) in
    let within = below.1.1 in
    (below.0, (suc below.1.0, omega (arith, within), below.1.2), below.2)

module _ (reach : Reach) (question : Question) (size rounds : ℕ) (history : List Counterexample) (honest : IsHonestHistory reach question size rounds history) where
  -- its counterexamples were next
  was_next : (c : Counterexample) (of : Contains history c) → IsNextCounterexample reach question size (take of.0 history) c
  was_next c of = honest.each of.0 c (slice_get-get_or history of.0 c of.1 ∙ ap Some of.2)

  pub assigned : (c : Counterexample) → Contains history c → AreValues question.variables c.assignment
  assigned c of = (was_next c of).values

  -- all assignments are values of the variables
  pub all_assigned : All (AreValues question.variables) (assignments_of history)
  all_assigned k d within =
      let from = from_map (λ (c : Counterexample). c.assignment) history (get_or (assignments_of history) k d) (Contains-get_or (assignments_of history) k d within) in
      subst (AreValues question.variables) from.2 (assigned from.0 from.1)

  -- assumptions that ask nothing are true at each, whatever the bodies
  pub assumed : AssumptionsAskNothing question → (bodies : List Expr) (c : Counterexample) → Contains history c → All (IsTrueUnder question bodies c.assignment) question.assumptions
  assumed nothing bodies c of k d within =
      let defined = functions question.definitions in
      let same = same_under defined (map (function_from defined) c.bodies) (map (function_from defined) bodies) c.assignment (get_or question.assumptions k d)
      (λ call asks. absurd (in_nothing call (subst (λ calls. Contains calls call) (nothing c.bodies c.assignment k d within) asks))) in
      sym same.value ∙ (was_next c of).violates.0 k d within

  -- a constraint that isn't true at an assignment
  pub untrue_violates : AssumptionsAskNothing question → (bodies : List Expr) (c : Counterexample) (constraint : Expr) → Contains history c → Contains question.constraints constraint →
      (IsTrueUnder question bodies c.assignment constraint → ⊥) → IsViolatedIn question history bodies
  untrue_violates nothing bodies c constraint stored of untrue = record {
    counterexample = c;
    stored = stored;
    violates = (assumed nothing bodies c stored, λ all. untrue (All-contains (IsTrueUnder question bodies c.assignment) question.constraints constraint all of));
  }

  -- a body that is bad at a tuple
  pub bad_violates : AssumptionsAskNothing question → (tuple : List Val) (body : Expr) → IsBadAt question (assignments_of history) tuple body → IsViolatedIn question history (body ∷ [])
  bad_violates nothing tuple body bad =
      let from = from_map (λ (c : Counterexample). c.assignment) history bad.values bad.stored in
      untrue_violates nothing (body ∷ []) from.0 bad.constraint from.1 bad.of (λ holds. bad.untrue (subst (λ values. IsTrueUnder question (body ∷ []) values bad.constraint) from.2 holds))
