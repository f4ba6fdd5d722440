-- What constraints ask where they rest, and what a search knows by it.
use Rattle.std.specs.Prelude.{ℕ, ◌≡◌, ◌<◌, List, length, map}
use Rattle.std.proofs.Common.{sym, subst, ⊎_elim}
use Rattle.sy_terms.specs.Values.{Val}
use Rattle.sy_terms.specs.Denoted.{expr_of, vals_of}
use Rattle.sy_terms.specs.declared.sort.Value.{Value}
use Rattle.sy_terms.specs.declared.term.Term.{Term}
use Rattle.sy_grammar_base.specs.Questions.{Question}
use Rattle.sy_query_limits.specs.declared.Limits.{Limits}
use Rattle.sy_points.specs.Asked.{Asked, of_function}
use Rattle.sy_points.specs.declared.stored.Stored.{Stored}
use Rattle.sy_loop_spec.specs.Pointwise.{IsPointwise}
use Rattle.sy_loop_spec.specs.declared.reach.Reach.{Reach}
use Rattle.sy_loop_spec.specs.Adding.{IsAsked}
use Rattle.sy_loop_spec.specs.Budgets.{CheckedLeaves, PointsMet}
use Rattle.sy_loop_spec.specs.Histories.{Counterexample, IsCandidate, IsMet}
use Rattle.sy_loop_spec.specs.Stored.{history_of}
use Rattle.sy_loop_spec.proofs.Staying.{tried_in_bound}
use Rattle.sy_loop_truth.specs.Known.{IsHeld, IsKnown}
use Rattle.sy_loop_candidate.proofs.Ending.{checked_leaves, points_met, room_in, stored_candidate}
use Rattle.sy_loop_spec.proofs.Merged.{numbered}
use Rattle.sy_loop_pointwise.specs.Resting.{AlwaysLeaves, IsRestedOn, RestsOnMore, WidensByRests}
use Rattle.sy_loop_pointwise.proofs.RestsAsked.{asks_more, leaves_under, rested_is_asked}
use Rattle.sy_loop.specs.Copies.{AreStored}

module _ (question : Question) (pointwise : IsPointwise question) (reach : Reach) (limits : Limits) (history : List Counterexample) where
  -- a tuple on which a constraint rests is met
  rested_met : (before : Asked) → IsKnown reach question limits history before → (tuple : List Val) → IsRestedOn question history tuple → IsMet reach question limits.size history 0 tuple
  rested_met before known tuple on =
      let c = on.counterexample in
      let at = numbered history c on.stored in
      let candidate = stored_candidate reach question limits history at.0 c known.honest at.1 in
      record {
        number = candidate.number;
        number_open = candidate.number_open;
        bodies = c.bodies;
        bound = tried_in_bound reach question limits.size history candidate.number c.bodies candidate.by;
        counterexample = c;
        stored = on.stored;
        asks = rested_is_asked question pointwise history known.held.assigned tuple on c.bodies;
      }

  pub known_rested : (before after : Asked) → IsKnown reach question limits history before → IsHeld question limits history after → WidensByRests question history before after → IsKnown reach question limits history after
  known_rested before after known held widens = record {
    held = held;
    honest = known.honest;
    met = λ function tuple is. ⊎_elim
        (λ (old : IsAsked before function tuple). known.met function tuple old)
        (λ (new : (function ≡ 0) × IsRestedOn question history tuple). subst (λ f. IsMet reach question limits.size history f tuple) (sym new.0) (rested_met before known tuple new.1))
        (widens.only function tuple is);
  }

module _ {T N : Type 0} (number : N → Val) (question : Question) (pointwise : IsPointwise question) (reach : Reach) (limits : Limits) (stored : Stored T N) (asked : Asked)
    (known : IsKnown reach question limits (history_of number stored) asked) (room : length stored.items < limits.rounds) (place : ℕ) (bodies : List (Term T N)) (assignment : List (Value N)) (are : AreStored number stored place bodies assignment) where
  candidate : IsCandidate reach question limits.size (history_of number stored) (map (expr_of number) bodies)
  candidate = subst (IsCandidate reach question limits.size (history_of number stored)) (sym are.bodies_are) (stored_candidate reach question limits (history_of number stored) place are.counterexample known.honest are.at)

  -- no room for a tuple on which a constraint rests
  pub full_met : RestsOnMore question (history_of number stored) asked place →
      PointsMet reach question limits.size limits.rounds limits.points (history_of number stored) 0 (map (expr_of number) bodies) (vals_of number assignment) (of_function asked 0) × (0 < length asked.tuples)
  full_met more =
      points_met reach question limits (history_of number stored) asked (map (expr_of number) bodies) 0 place (vals_of number assignment) known (room_in number stored limits.rounds room) candidate
      (asks_more question pointwise (history_of number stored) known.held.assigned asked place more (map (expr_of number) bodies)) are.assigned

  -- a constraint that leaves the range whatever the function is
  pub always_leaves : AlwaysLeaves question (history_of number stored) place → CheckedLeaves reach question limits.size limits.rounds (history_of number stored) (map (expr_of number) bodies) (vals_of number assignment)
  always_leaves leaves =
      checked_leaves reach question limits (history_of number stored) (map (expr_of number) bodies) place (vals_of number assignment) known.honest (room_in number stored limits.rounds room) candidate
      (leaves_under question (history_of number stored) place leaves (map (expr_of number) bodies)) are.assigned
