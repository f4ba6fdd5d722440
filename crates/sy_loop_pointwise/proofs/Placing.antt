-- Where constraints rest, one after the other.
use Rattle.std.proofs.Common.{◌≡◌, ◌<◌, ◌≤◌, ◌+◌, ◌++◌, ⊎_elim, inl, inr, refl, ap, sym, subst, ◌∙◌, ℕ, zero, suc, Bool, true, false, List, [], ◌∷◌, Some, length, arith, slice_get}
use Rattle.std.specs.Prelude.{◌⊎◌}
use Rattle.std.specs.List.{Contains}
use Rattle.std.proofs.lemmas.List.{length-map}
use Rattle.std.proofs.lemmas.Option.{slice_get_within}
use Rattle.std.proofs.lemmas.List.Elements.{All-nil, All-push, Contains-push, Contains-append_left}
use Rattle.sy_terms.specs.Values.{Val}
use Rattle.sy_terms.specs.Expr.{Expr}
use Rattle.sy_query_limits.specs.declared.Limits.{Limits}
use Rattle.sy_meaning.specs.Calls.{IsCallOf}
use Rattle.sy_grammar_base.specs.Fits.{wanted_of}
use Rattle.sy_grammar_base.specs.Questions.{Goal, Question}
use Rattle.sy_grammar_base.specs.Solving.{AreValues}
use Rattle.sy_points.specs.Asked as points
use Rattle.sy_points.specs.Asked.{Asked, of_function}
use Rattle.sy_points.specs.declared.points.Added.TheVariants as added
use Rattle.sy_loop_spec.specs.Applications.{applications}
use Rattle.sy_loop_spec.specs.Pointwise.{IsPointwise}
use Rattle.sy_loop_spec.specs.Resting.{RestsOn}
use Rattle.sy_loop_spec.specs.WrittenOut.{written_out}
use Rattle.sy_loop_spec.proofs.Applied.{in_nothing}
use Rattle.sy_loop_spec.proofs.Goodness.{posed_in}
use Rattle.sy_loop_spec.proofs.Resting.{rests_on_one}
use Rattle.sy_loop_spec.proofs.Variables.{many_values}
use Rattle.sy_loop_spec.specs.Adding.{GainsTuples, IsAsked, room}
use Rattle.sy_loop_spec.specs.Histories.{Counterexample}
use Rattle.sy_loop_truth.specs.Known.{IsHeld}
use Rattle.sy_loop_truth.proofs.Items.{has_place}
use Rattle.sy_loop_truth.proofs.Places.{item_at}
use Rattle.sy_loop_truth.proofs.Traced.{first_or_later, no_element}
use Rattle.sy_loop_truth.proofs.Tuples.{changed_new, gains_more, gains_start}
use Rattle.sy_loop_pointwise.specs.Posed.{ArePosed, PosesConstraint}
use Rattle.sy_loop_pointwise.specs.Rests.{RestsAt}
use Rattle.sy_loop_pointwise.specs.declared.posed.Posed.{Posed}
use Rattle.sy_loop_spec.specs.Goods.{assignments_of}
use Rattle.sy_loop_pointwise.specs.Placing.{AreRestsBefore, IsBefore, Places}
use Rattle.sy_loop_truth.specs.Rests.{AreRests, IsAmong, IsRest}
use Rattle.sy_loop_pointwise.specs.Resting.{IsRestedOn, RestsOnMore, WidensByRests}
use Rattle.sy_loop_pointwise.specs.declared.rests.Placed.TheVariants.{There, New}
use Rattle.sy_loop_truth.specs.declared.rest.Rest.{Rest}

same_item : {X : Type 0} (xs : List X) (j k : ℕ) (x y : X) → j ≡ k → slice_get xs j ≡ Some x → slice_get xs k ≡ Some y → x ≡ y
same_item xs j k x y same one other = let e = sym one ∙ ap (slice_get xs) same ∙ other in cc

pub less_or_same : (k n : ℕ) → k < n + 1 → (k < n) ⊎ (k ≡ n)
less_or_same zero zero less = inr refl
less_or_same zero (suc n) less = inl (omega arith)
less_or_same (suc k) zero less = absurd (omega (arith, less))
less_or_same (suc k) (suc n) less = ⊎_elim (λ (under : k < n). inl (omega (arith, under))) (λ (same : k ≡ n). inr (ap suc same)) (less_or_same k n (omega (arith, less)))

before_or_this : (p k place number : ℕ) → IsBefore p k place (number + 1) → IsBefore p k place number ⊎ ((p ≡ place) × (k ≡ number))
before_or_this p k place number before = ⊎_elim
    (λ (earlier : p < place). inl (inl earlier))
    (λ (here : (p ≡ place) × (k < number + 1)). ⊎_elim
    (λ (under : k < number). inl (inr (here.0, under)))
    (λ (same : k ≡ number). inr (here.0, same))
    (less_or_same k number here.1))
    before

module _ (question : Question) (assignments points : List (List Val)) where
  -- nothing comes before the first
  pub none_before : AreRestsBefore question assignments points 0 0 []
  none_before = record {
    each = All-nil (IsRest question assignments points);
    all = λ p k constraint values tuple before is_k is_p on. absurd (⊎_elim (λ (less : p < 0). omega (arith, less)) (λ (here : (p ≡ 0) × (k < 0)). let less = here.1 in omega (arith, less)) before);
  }

  -- after the last constraint comes the next assignment
  pub next_place : (place number : ℕ) (rests : List Rest) → length question.constraints ≤ number → AreRestsBefore question assignments points place number rests → AreRestsBefore question assignments points (place + 1) 0 rests
  next_place place number rests all so_far = record {
    each = so_far.each;
    all = λ p k constraint values tuple before is_k is_p on. so_far.all p k constraint values tuple (⊎_elim
        (λ (less : p < place + 1). ⊎_elim
        (λ (earlier : p < place). inl earlier)
        (λ (same : p ≡ place). inr (same, let within = slice_get_within question.constraints k constraint is_k in omega (arith, within, all)))
        (less_or_same p place less))
        (λ (here : (p ≡ place + 1) × (k < 0)). let less = here.1 in absurd (omega (arith, less)))
        before) is_k is_p on;
  }

  -- after the last assignment nothing is left
  pub all_places : (place : ℕ) (rests : List Rest) → length assignments ≤ place → AreRestsBefore question assignments points place 0 rests → AreRests question assignments points rests
  all_places place rests all so_far = record {
    each = so_far.each;
    all = λ k p constraint values tuple is_k is_p on. so_far.all p k constraint values tuple (inl (let within = slice_get_within assignments p values is_p in omega (arith, within, all))) is_k is_p on;
  }

-- one constraint at one assignment
module _ (question : Question) (assignments points : List (List Val)) (place number : ℕ) (values : List Val) (constraint : Expr)
    (stored : slice_get assignments place ≡ Some values) (numbered : slice_get question.constraints number ≡ Some constraint) where
  pub nowhere : applications (written_out question constraint) ≡ [] → (rests : List Rest) → AreRestsBefore question assignments points place number rests → AreRestsBefore question assignments points place (number + 1) rests
  nowhere none rests so_far = record {
    each = so_far.each;
    all = λ p k other others tuple before is_k is_p on. ⊎_elim
        (λ (earlier : IsBefore p k place number). so_far.all p k other others tuple earlier is_k is_p on)
        (λ (this : (p ≡ place) × (k ≡ number)).
        let same = same_item question.constraints k number other constraint this.1 is_k numbered in
        absurd (in_nothing on.application (subst (λ all. Contains all on.application) (ap (λ c. applications (written_out question c)) same ∙ none) on.of)))
        (before_or_this p k place number before);
  }

  among_more : (rests : List Rest) (rest : Rest) (k p : ℕ) (tuple : List Val) → IsAmong points rests k p tuple → IsAmong points (rests ++ rest ∷ []) k p tuple
  among_more rests rest k p tuple is = record { point = is.point; at = is.at; among = Contains-append_left rests (rest ∷ []) (record { constraint = k; place = p; point = is.point }) is.among }

  pub there : IsPointwise question → AreValues question.variables values → (tuple : List Val) (point : ℕ) → RestsOn question values constraint tuple → slice_get points point ≡ Some tuple → (rests : List Rest) →
      AreRestsBefore question assignments points place number rests → AreRestsBefore question assignments points place (number + 1) (rests ++ record { constraint = number; place = place; point = point } ∷ [])
  there pointwise are tuple point rests_on at rests so_far =
      let rest : Rest = record { constraint = number; place = place; point = point } in
      let posed = posed_in question constraint pointwise (has_place question.constraints number constraint numbered) in
      record {
        each = All-push (IsRest question assignments points) rests rest so_far.each
            (record { constraint = constraint; of = numbered; values = values; stored = stored; tuple = tuple; at = at; rests = rests_on });
        all = λ p k other others that before is_k is_p on. ⊎_elim
            (λ (earlier : IsBefore p k place number). among_more rests rest k p that (so_far.all p k other others that earlier is_k is_p on))
            (λ (this : (p ≡ place) × (k ≡ number)).
            let same = same_item question.constraints k number other constraint this.1 is_k numbered in
            let same_values = same_item assignments p place others values this.0 is_p stored in
            let here = subst (λ c. RestsOn question values c that) same (subst (λ vs. RestsOn question vs other that) same_values on) in
            let one = rests_on_one question values (many_values question.variables values are) constraint posed.0 posed.1 tuple that rests_on here in
            subst (λ q. IsAmong points (rests ++ rest ∷ []) q p that) (sym this.1)
            (subst (λ q. IsAmong points (rests ++ rest ∷ []) number q that) (sym this.0)
            (record { point = point; at = at ∙ ap Some one; among = Contains-push rests rest })))
            (before_or_this p k place number before);
      }

-- how points grow
module _ (question : Question) (history : List Counterexample) where
  pub widens_not : (asked : Asked) → WidensByRests question history asked asked
  widens_not asked = record { keeps = λ function tuple at. at; only = λ function tuple at. inl at; less = omega arith }

  pub widens_then : (before now after : Asked) → WidensByRests question history before now → WidensByRests question history now after → WidensByRests question history before after
  widens_then before now after first second =
      let less = first.less in
      let less' = second.less in
      record {
        keeps = λ function tuple at. second.keeps function tuple (first.keeps function tuple at);
        only = λ function tuple at. ⊎_elim
            (λ (old : IsAsked now function tuple). first.only function tuple old)
            (λ (new : (function ≡ 0) × IsRestedOn question history tuple). inr new)
            (second.only function tuple at);
        less = omega (arith, less, less');
      }

-- a tuple on which a constraint rests at an assignment of the history is added
module _ (question : Question) (limits : Limits) (history : List Counterexample) (place : ℕ) (c : Counterexample) (at : slice_get history place ≡ Some c)
    (constraint : Expr) (of : Contains question.constraints constraint) (tuple : List Val) (rests : RestsAt question c.assignment constraint tuple)
    (before after : Asked) (answer : added.the_data) (held : IsHeld question limits history before) (adds : points.Adds before 0 tuple answer after) where
  pub call_within : 0 < length before.tuples
  call_within =
      let call = rests.call in
      let within = slice_get_within (wanted_of question) 0 call.signature call.at in
      let functions = held.functions in
      omega (arith, within, functions, length-map question.goals (λ (goal : Goal). goal.signature))

  gains : GainsTuples ((0, tuple) ∷ []) before after
  gains = gains_more ((0, tuple) ∷ []) before before after 0 0 tuple answer (gains_start ((0, tuple) ∷ []) before) call_within refl adds

  the_one : (call : ℕ × List Val) → Contains ((0, tuple) ∷ []) call → (0, tuple) ≡ call
  the_one call in_one = ⊎_elim (λ (same : (0, tuple) ≡ call). same) (λ (later : Contains [] call). absurd (no_element call later)) (first_or_later (0, tuple) [] call in_one)

  rested : IsRestedOn question history tuple
  rested = record { counterexample = c; stored = has_place history place c at; constraint = constraint; of = of; rests = rests.rests; first = rests.first }

  pub add_holds : IsHeld question limits history after
  add_holds = record {
    assigned = held.assigned;
    limit = gains.limit ∙ held.limit;
    functions = gains.functions ∙ held.functions;
    bounded = gains.bounded held.bounded;
    taken = λ function other is. ⊎_elim
        (λ (old : IsAsked before function other). held.taken function other old)
        (λ (new : Contains ((0, tuple) ∷ []) (function, other)). subst (IsCallOf (wanted_of question)) (the_one (function, other) new) rests.call)
        (gains.only function other is);
  }

  pub add_widens : WidensByRests question history before after
  add_widens = record {
    keeps = gains.keeps;
    only = λ function other is. ⊎_elim
        (λ (old : IsAsked before function other). inl old)
        (λ (new : Contains ((0, tuple) ∷ []) (function, other)).
        let same = the_one (function, other) new in
        inr (sym (ap (λ (call : ℕ × List Val). call.0) same), subst (λ (call : ℕ × List Val). IsRestedOn question history call.1) same rested))
        (gains.only function other is);
    less = gains.less;
  }

-- as many tuples as there may be
pub full : (question : Question) (limits : Limits) (history : List Counterexample) (place : ℕ) (c : Counterexample) → slice_get history place ≡ Some c → (constraint : Expr) → Contains question.constraints constraint → (tuple : List Val) →
    RestsAt question c.assignment constraint tuple → (before after : Asked) → IsHeld question limits history before → points.Adds before 0 tuple added.Full after → RestsOnMore question history after place
full question limits history place c at constraint of tuple rests before after held adds =
    subst (λ asked. RestsOnMore question history asked place) (sym adds.2)
    (record {
      counterexample = c;
      at = at;
      constraint = constraint;
      of = of;
      tuple = tuple;
      rests = rests.rests;
      first = rests.first;
      within = call_within question limits history place c at constraint of tuple rests before after added.Full held adds;
      new = adds.0;
      full = adds.1;
    })

-- one tuple more leaves less room
pub less_room : (before after : Asked) (tuple : List Val) → 0 < length before.tuples → points.Adds before 0 tuple added.New after → room after < room before
less_room before after tuple within adds = changed_new ((0, tuple) ∷ []) before before after 0 tuple (gains_start ((0, tuple) ∷ []) before) within adds

-- what became of the constraints from the first numbers to the last, where no answer is given yet
abbrev pub SoFar : Question → List Counterexample → ℕ → ℕ → ℕ → ℕ → Asked → List Rest → Asked → List Rest → Bool → Type 0
SoFar question history place number place' number' before rests after rests' true = room after < room before
SoFar question history place number place' number' before rests after rests' false =
    (after ≡ before) × (AreRestsBefore question (assignments_of history) (of_function before 0) place number rests → AreRestsBefore question (assignments_of history) (of_function before 0) place' number' rests')

module _ (question : Question) (history : List Counterexample) (p k place number place' number' : ℕ) (before now after : Asked) (rests rests' rests'' : List Rest) (at : ℕ) where
  pub next_there : (new : Bool) → SoFar question history p k place number before rests now rests' new → Places question history at place number place' number' now rests' after rests'' There →
      SoFar question history p k place' number' before rests after rests'' new
  next_there true so_far there = subst (λ asked. room asked < room before) (sym there.0) so_far
  next_there false so_far there = (
    there.0 ∙ so_far.0,
    λ first. subst (λ asked. AreRestsBefore question (assignments_of history) (of_function asked 0) place' number' rests'') so_far.0
        (there.1 (subst (λ asked. AreRestsBefore question (assignments_of history) (of_function asked 0) place number rests') (sym so_far.0) (so_far.1 first))),
  )

  pub next_new : WidensByRests question history before now → Places question history at place number place' number' now rests' after rests'' New → room after < room before
  next_new widens less = let wider = widens.less in omega (arith, wider, less)

-- the constraint of this number, and what is kept of it
pub record IsConstraint {T N : Type 0} (question : Question) (posed : Posed T N) (number : ℕ) : Type 0 where
  pub constraint : Expr
  pub at : slice_get question.constraints number ≡ Some constraint
  pub of : Contains question.constraints constraint
  pub poses : PosesConstraint question constraint posed

pub the_constraint : {T N : Type 0} (question : Question) (all : List (Posed T N)) (number : ℕ) (posed : Posed T N) → ArePosed question all → slice_get all number ≡ Some posed → IsConstraint question posed number
the_constraint question all number posed are at =
    let within = slice_get_within all number posed at in
    let many = are.many in
    let item = item_at question.constraints number (omega (arith, within, many)) in
    record { constraint = item.0; at = item.1; of = has_place question.constraints number item.0 item.1; poses = are.each number item.0 posed item.1 at }
