-- What follows of where constraints rest, for whoever searches: the points have all such tuples, and bodies ask for them.
use Rattle.std.proofs.Common.{◌≡◌, ⊎_elim, ap, sym, subst, ◌∙◌, ℕ, List, [], ◌∷◌, Some, map, slice_get}
use Rattle.std.specs.List.{Contains}
use Rattle.std.proofs.lemmas.Option.{slice_get-get_or}
use Rattle.std.proofs.lemmas.List.Elements.{Contains-append_left, Contains-append_right}
use Rattle.sy_terms.specs.Values.{Val}
use Rattle.sy_terms.specs.Expr.{Expr}
use Rattle.sy_terms.specs.Meaning.{Function, asked, function_from, functions}
use Rattle.sy_grammar_base.specs.Questions.{Question}
use Rattle.sy_grammar_base.specs.Solving.{AreValues}
use Rattle.sy_points.specs.Asked.{Asked}
use Rattle.sy_loop_spec.specs.Pointwise.{IsPointwise}
use Rattle.sy_loop_spec.specs.Resting.{RestsOn}
use Rattle.sy_loop_spec.proofs.Goodness.{posed_in}
use Rattle.sy_loop_spec.proofs.Resting.{rests_asks}
use Rattle.sy_loop_spec.proofs.Variables.{many_values}
use Rattle.sy_loop_spec.specs.Histories.{Counterexample, all_asked_by, trace}
use Rattle.sy_loop_truth.specs.Traces.{AsksMore, LeavesRangeAt}
use Rattle.sy_loop_truth.proofs.Items.{has_place}
use Rattle.sy_loop_truth.proofs.Traced.{first_or_later, no_element}
use Rattle.sy_loop_spec.specs.Goods.{AllRestWithin}
use Rattle.sy_loop_truth.specs.Rests.{AreAssigned}
use Rattle.sy_loop_truth.specs.Rests.{AreRests}
use Rattle.sy_loop_pointwise.specs.Resting.{AlwaysLeaves, IsRestedOn, RestsOnMore}
use Rattle.sy_loop_truth.specs.declared.rest.Rest.{Rest}

placed : {X : Type 0} (xs : List X) (x : X) → Contains xs x → (k : ℕ) × (slice_get xs k ≡ Some x)
placed xs x of = (of.0, slice_get-get_or xs of.0 x of.1 ∙ ap Some of.2)

-- each tuple on which a constraint rests is a point
pub all_rest_within : (question : Question) (assignments points : List (List Val)) (rests : List Rest) → AreRests question assignments points rests → AllRestWithin question assignments points
all_rest_within question assignments points rests are values constraint tuple stored of on =
    let number = placed question.constraints constraint of in
    let place = placed assignments values stored in
    let among = are.all number.0 place.0 constraint values tuple number.1 place.1 on in
    has_place points among.point tuple among.at

asked_in : (defined wanted : List Function) (values : List Val) (terms : List Expr) (term : Expr) (call : ℕ × List Val) → Contains terms term → Contains (asked defined wanted values term) call → Contains (all_asked_by defined wanted values terms) call
asked_in defined wanted values [] term call of asks = absurd (no_element term of)
asked_in defined wanted values (first ∷ terms) term call of asks = ⊎_elim
    (λ (same : first ≡ term). Contains-append_left (asked defined wanted values first) (all_asked_by defined wanted values terms) call (subst (λ t. Contains (asked defined wanted values t) call) (sym same) asks))
    (λ (later : Contains terms term). Contains-append_right (asked defined wanted values first) (all_asked_by defined wanted values terms) call (asked_in defined wanted values terms term call later asks))
    (first_or_later first terms term of)

module _ (question : Question) (pointwise : IsPointwise question) where
  -- whatever the bodies, they ask function 0 for a tuple on which a constraint rests
  pub rest_is_asked : (values : List Val) (constraint : Expr) (tuple : List Val) → AreValues question.variables values → Contains question.constraints constraint → (rests : RestsOn question values constraint tuple) → rests.application.0 ≡ 0 →
      (bodies : List Expr) → Contains (trace question bodies values) (0, tuple)
  rest_is_asked values constraint tuple are of rests first bodies =
      let defined = functions question.definitions in
      let wanted = map (function_from defined) bodies in
      let posed = posed_in question constraint pointwise of in
      let asks = rests_asks question values (many_values question.variables values are) constraint posed.0 posed.1 tuple rests wanted in
      let call_is : (rests.application.0, tuple) ≡ (0, tuple) = ap (λ (function : ℕ). (function, tuple)) first in
      asked_in defined wanted values question.constraints constraint (0, tuple) of (subst (Contains (asked defined wanted values constraint)) call_is asks)

  module _ (history : List Counterexample) (assigned : AreAssigned question history) where
    -- so for a tuple on which one rests at an assignment of the history
    pub rested_is_asked : (tuple : List Val) → (rested : IsRestedOn question history tuple) → (bodies : List Expr) → Contains (trace question bodies rested.counterexample.assignment) (0, tuple)
    rested_is_asked tuple rested bodies =
        let place = placed history rested.counterexample rested.stored in
        rest_is_asked rested.counterexample.assignment rested.constraint tuple (assigned place.0 rested.counterexample place.1) rested.of rested.rests rested.first bodies

    -- and where it is one more than there may be
    pub asks_more : (asked : Asked) (place : ℕ) → RestsOnMore question history asked place → (bodies : List Expr) → AsksMore question history asked bodies 0 place
    asks_more asked place more bodies = record {
      counterexample = more.counterexample;
      at = more.at;
      tuple = more.tuple;
      asks = rest_is_asked more.counterexample.assignment more.constraint more.tuple (assigned place more.counterexample more.at) more.of more.rests more.first bodies;
      within = more.within;
      new = more.new;
      full = more.full;
    }

-- a constraint that is never computable isn't under any bodies
pub leaves_under : (question : Question) (history : List Counterexample) (place : ℕ) → AlwaysLeaves question history place → (bodies : List Expr) → LeavesRangeAt question history bodies place
leaves_under question history place always bodies = record {
  counterexample = always.counterexample;
  at = always.at;
  leaves = record {
    term = always.constraint;
    of = Contains-append_right question.assumptions question.constraints always.constraint always.of;
    leaves = always.leaves (map (function_from (functions question.definitions)) bodies);
  };
}
