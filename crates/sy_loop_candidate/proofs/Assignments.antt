-- Candidates at the assignments of a history.
use Rattle.std.proofs.Common.{◌≡◌, ◌<◌, ◌++◌, ⊎_elim, ap, sym, subst, ◌∙◌, ℕ, List, [], ◌∷◌, length, map, slice_get, Some}
use Rattle.std.specs.Option.{option_map}
use Rattle.std.specs.List.{Contains}
use Rattle.std.proofs.lemmas.List.Elements.{Contains-append_left, Contains-append_right}
use Rattle.sy_terms.specs.Values.{Val}
use Rattle.sy_terms.specs.Denoted.{vals_of}
use Rattle.sy_terms.specs.Expr.{Expr}
use Rattle.sy_terms.specs.Meaning.{functions, function_from, asked}
use Rattle.sy_terms.specs.declared.sort.Value.{Value}
use Rattle.sy_terms.specs.declared.term.Term.{Term}
use Rattle.sy_query_limits.specs.declared.Limits.{Limits}
use Rattle.sy_grammar_base.specs.Questions.{Question}
use Rattle.sy_points.specs.Asked.{Asked}
use Rattle.sy_points.specs.declared.stored.Stored.{Stored}
use Rattle.sy_loop_spec.specs.Histories.{Counterexample, all_asked_by, trace}
use Rattle.sy_loop_spec.specs.Stored.{history_of}
use Rattle.sy_loop_spec.specs.Truths.{IsViolated, OneLeaves}
use Rattle.sy_loop_spec.specs.Adding.{GainsTuples}
use Rattle.sy_loop_truth.specs.Answers.{AddsCalls}
use Rattle.sy_loop_truth.specs.Known.{IsHeld}
use Rattle.sy_loop_truth.specs.Traces.{LeavesRangeAt, Widens}
use Rattle.sy_loop_candidate.specs.Answers.{Tries, trial_of}
use Rattle.sy_loop_truth.specs.declared.calls.Adding.{Adding}
use Rattle.sy_loop_truth.specs.declared.calls.Adding.TheVariants.{There, New, Full}
use Rattle.sy_loop_truth.proofs.Traced.{no_element, first_or_later}
use Rattle.sy_loop_truth.proofs.Items.{has_place}
use Rattle.sy_loop_truth.proofs.Places.{place_of}
use Rattle.sy_loop_candidate.proofs.Asking.{within_held, held_with, widened}

-- a copy of its assignment
pub stored_copy : {T N : Type 0} (number : N → Val) (stored : Stored T N) (place : ℕ) (pair : List (Value N) × List (Term T N)) (copy : List (Value N)) → slice_get stored.items place ≡ Some pair → copy ≡ pair.0 →
    option_map (λ (c : Counterexample). c.assignment) (slice_get (history_of number stored) place) ≡ Some (vals_of number copy)
stored_copy {T} {N} number stored place pair copy at same =
    ap (option_map (λ (c : Counterexample). c.assignment)) (place_of number stored place pair at)
    ∙ ap (λ (vs : List (Value N)). Some (vals_of number vs)) (sym same)

-- what a constraint asks, all constraints ask
asked_of : (definitions : List Expr) (bodies : List Expr) (values : List Val) (terms : List Expr) (term : Expr) (call : ℕ × List Val) → Contains terms term →
    Contains (asked (functions definitions) (map (function_from (functions definitions)) bodies) values term) call →
    Contains (all_asked_by (functions definitions) (map (function_from (functions definitions)) bodies) values terms) call
asked_of definitions bodies values [] term call of asks = absurd (no_element term of)
asked_of definitions bodies values (first ∷ terms) term call of asks =
    let wanted = map (function_from (functions definitions)) bodies in
    ⊎_elim
    (λ (same : first ≡ term). Contains-append_left (asked (functions definitions) wanted values first) (all_asked_by (functions definitions) wanted values terms) call
    (subst (λ t. Contains (asked (functions definitions) wanted values t) call) (sym same) asks))
    (λ (later : Contains terms term). Contains-append_right (asked (functions definitions) wanted values first) (all_asked_by (functions definitions) wanted values terms) call
    (asked_of definitions bodies values terms term call later asks))
    (first_or_later first terms term of)

module _ (question : Question) (limits : Limits) (history : List Counterexample) (bodies : List Expr) (c : Counterexample) (calls : List (ℕ × List Val)) (violated : IsViolated question bodies c.assignment calls) where
  traced_at : (call : ℕ × List Val) → Contains calls call → Contains (trace question bodies c.assignment) call
  traced_at call at = asked_of question.definitions bodies c.assignment question.constraints violated.constraint.term call violated.constraint.of (violated.constraint.is.only call at)

  -- the calls are of functions to be found
  pub calls_within : (before : Asked) → IsHeld question limits history before → (function : ℕ) (tuple : List Val) → Contains calls (function, tuple) → function < length before.tuples
  calls_within before held function tuple at =
      within_held question limits history bodies c calls violated.constraint.is.taken traced_at before held function tuple at

  -- what is held after they were added
  pub holds : (before after : Asked) → IsHeld question limits history before → GainsTuples calls before after → IsHeld question limits history after
  holds before after held gains = held_with question limits history bodies c calls violated.constraint.is.taken traced_at before after held gains

  pub widens : (before after : Asked) (place : ℕ) → slice_get history place ≡ Some c → GainsTuples calls before after → Widens question history bodies before after
  widens before after place at gains = widened question limits history bodies c calls violated.constraint.is.taken traced_at before after place at gains

  -- what became of the bodies
  pub tried : (before after : Asked) (place : ℕ) (adding : Adding) → slice_get history place ≡ Some c → AddsCalls calls before after adding → Tries question history bodies before after (trial_of adding place)
  tried before after place There at adds =
      (record { counterexample = c; stored = has_place history place c at; calls = calls; violated = violated; there = adds.0 }, adds.1)
  tried before after place New at adds = adds.1
  tried before after place (Full function) at adds =
      record { counterexample = c; at = at; tuple = adds.tuple; asks = traced_at (function, adds.tuple) adds.of; within = adds.within; new = adds.new; full = adds.full }

pub leaves_at : (question : Question) (history : List Counterexample) (bodies : List Expr) (place : ℕ) (c : Counterexample) → slice_get history place ≡ Some c → OneLeaves question bodies c.assignment (question.assumptions ++ question.constraints) → LeavesRangeAt question history bodies place
leaves_at question history bodies place c at leaves = record { counterexample = c; at = at; leaves = leaves }
