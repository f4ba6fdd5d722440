-- What candidates ask at assignments.
use Rattle.std.proofs.Common.{◌≡◌, ◌<◌, ◌≤◌, ◌+◌, ◌++◌, ⊎_elim, inl, inr, refl, ap, sym, subst, ◌∙◌, ℕ, Bool, false, List, [], ◌∷◌, Some, length, map, take, get_or, arith, append_assoc, slice_get}
use Rattle.std.specs.List.{All, Contains}
use Rattle.std.proofs.lemmas.List.{append-nil, take_more, take_all, map_push, length-map}
use Rattle.std.proofs.lemmas.Option.{slice_get_within, get_or_from_slice_get}
use Rattle.std.proofs.lemmas.List.Elements.{All-nil, All-append, All-push, All-get_or, All-contains, All-contains_itself, All-weaker, Contains-append_right}
use Rattle.sy_terms.specs.Values.{Val}
use Rattle.sy_terms.specs.Expr.{Expr}
use Rattle.sy_terms.specs.Denoted.{expr_of}
use Rattle.sy_terms.specs.Meaning.{Function, functions, function_from, asked}
use Rattle.sy_terms.specs.declared.op.Op.{Op}
use Rattle.sy_terms.specs.declared.term.Term.{Term}
use Rattle.sy_query_limits.specs.declared.Limits.{Limits}
use Rattle.sy_terms_operators.specs.Evaluation.{BodiesFit, can_compute}
use Rattle.sy_terms_operators.specs.Asking.{asks}
use Rattle.sy_terms_operators.specs.Tracing.{traced_all}
use Rattle.sy_terms_operators.specs.Tracing as tracing
use Rattle.sy_terms_operators.proofs.Asked.{traced_all-append}
use Rattle.sy_meaning.specs.Calls.{IsCallOf, AsksRightly}
use Rattle.sy_grammar_base.specs.Questions.{Goal, Question, question_of, signatures}
use Rattle.sy_grammar_base.specs.Solving.{AreValues}
use Rattle.sy_grammar_base.specs.declared.problem.Problem.{Problem}
use Rattle.sy_points.specs.Asked.{Asked}
use Rattle.sy_loop_spec.specs.declared.reach.Reach.{Reach}
use Rattle.sy_loop_spec.specs.Histories.{Counterexample, IsCandidate, all_asked_by, trace}
use Rattle.sy_loop_spec.proofs.Staying.{tried_in_bound}
use Rattle.sy_loop_spec.specs.Truths.{asked_by, OneLeaves}
use Rattle.sy_loop_spec.specs.Adding.{IsAsked, GainsTuples, room}
use Rattle.sy_loop_truth.specs.Answers.{AddsCalls}
use Rattle.sy_loop_truth.specs.Known.{IsHeld, IsKnown}
use Rattle.sy_loop_truth.specs.Traces.{AreCalls, TuplesGrow, Widens, IsAskedBy, MeetAll, AsksAt, IsTraced, AreTraced, IsTracedAt, LeavesRangeAt}
use Rattle.sy_loop_candidate.specs.Answers.{Tries}
use Rattle.sy_loop_truth.specs.declared.calls.Adding.{Adding}
use Rattle.sy_loop_truth.specs.declared.calls.Adding.TheVariants.{There, New, Full}
use Rattle.sy_loop_candidate.specs.declared.trial.Trial.{Trial}
use Rattle.sy_loop_candidate.specs.declared.trial.Trial.TheVariants as trials
use Rattle.sy_loop_candidate.specs.declared.trial.Trial.TheVariants.{Due, Refuted, Asks, Leaves}
use Rattle.sy_loop_truth.proofs.Traced.{gained_all, gained_only}
use Rattle.sy_loop_truth.proofs.Items.{has_place, has_at}
use Rattle.sy_loop_truth.proofs.Saying.{asks_are, call_taken, says_leaves, one_leaves}
use Rattle.sy_grammar_base.specs.Fits.{IsTruth, wanted_of}

-- what all terms of a list ask
abbrev pub asked_by_all : Question → List Expr → List Val → List Expr → List (ℕ × List Val)
asked_by_all question bodies values terms =
    all_asked_by (functions question.definitions) (map (function_from (functions question.definitions)) bodies) values terms

-- the calls of the terms so far
pub record AreCallsOf (question : Question) (bodies : List Expr) (values : List Val) (terms : List Expr) (calls : List (ℕ × List Val)) : Type 0 where
  pub gains : tracing.GainsCalls [] (asked_by_all question bodies values terms) calls
  pub taken : All (IsCallOf (wanted_of question)) (asked_by_all question bodies values terms)

one_more : (defined wanted : List Function) (values : List Val) (terms : List Expr) (term : Expr) → all_asked_by defined wanted values (terms ++ term ∷ []) ≡ all_asked_by defined wanted values terms ++ asked defined wanted values term
one_more defined wanted values [] term = append-nil (asked defined wanted values term)
one_more defined wanted values (first ∷ terms) term =
    ap (λ rest. asked defined wanted values first ++ rest) (one_more defined wanted values terms term)
    ∙ sym (append_assoc (asked defined wanted values first) (all_asked_by defined wanted values terms) (asked defined wanted values term))

module _ (question : Question) (bodies : List Expr) (values : List Val) where
  -- none yet
  pub calls_none : AreCallsOf question bodies values [] []
  calls_none = record { gains = record { is = refl }; taken = All-nil (IsCallOf (wanted_of question)) }

  -- one term more
  pub calls_more : (terms : List Expr) (term : Expr) (calls calls' : List (ℕ × List Val)) → AreCallsOf question bodies values terms calls → tracing.GainsCalls calls (asked_by question bodies values term) calls' →
      All (IsCallOf (wanted_of question)) (asked_by question bodies values term) → AreCallsOf question bodies values (terms ++ term ∷ []) calls'
  calls_more terms term calls calls' so_far gains taken =
      let wanted = map (function_from (functions question.definitions)) bodies in
      let split = one_more (functions question.definitions) wanted values terms term in
      record {
        gains = record {
          is = gains.is ∙ ap (λ before. traced_all before (asked_by question bodies values term)) so_far.gains.is
              ∙ sym (traced_all-append [] (asked_by_all question bodies values terms) (asked_by question bodies values term))
              ∙ ap (traced_all []) (sym split);
        };
        taken = subst (All (IsCallOf (wanted_of question))) (sym split) (All-append (IsCallOf (wanted_of question)) (asked_by_all question bodies values terms) (asked_by question bodies values term) so_far.taken taken);
      }

  -- all constraints
  pub calls_all : (calls : List (ℕ × List Val)) → AreCallsOf question bodies values question.constraints calls → AreCalls question bodies values calls
  calls_all calls so_far =
      let asks = trace question bodies values in
      record {
        all = λ call at. gained_all asks calls so_far.gains call at;
        only = λ call at. gained_only asks calls so_far.gains call at;
        taken = All-weaker (Contains calls) (IsCallOf (wanted_of question))
            (λ call at. All-contains (IsCallOf (wanted_of question)) asks call so_far.taken (gained_only asks calls so_far.gains call at)) calls (All-contains_itself calls);
      }

-- one constraint more, of those that a loop goes over
module _ {T N : Type 0} (owned : Op → Bool) (number : N → Val) (problem : Problem T N) (terms : List (Term T N)) (values : List Val)
    (fit : BodiesFit owned number problem.defs terms (signatures problem)) (are : AreValues problem.vars values) where
  truth_at : (items : List (Term T N)) (k : ℕ) (term : Term T N) → All (IsTruth owned number problem) problem.constraints → items ≡ problem.constraints → k < length items → term ≡ get_or items k term → IsTruth owned number problem term
  truth_at items k term truths same lt at =
      subst (IsTruth owned number problem) (sym at) (All-get_or (IsTruth owned number problem) items k term lt (subst (All (IsTruth owned number problem)) (sym same) truths))

  pub calls_next : (items : List (Term T N)) (k : ℕ) (term : Term T N) (calls calls' : List (ℕ × List Val)) → All (IsTruth owned number problem) problem.constraints → items ≡ problem.constraints → k < length items → term ≡ get_or items k term →
      AreCallsOf (question_of number problem) (map (expr_of number) terms) values (map (expr_of number) (take k items)) calls →
      tracing.GainsCalls calls (asks number problem.defs terms values (expr_of number term)) calls' → AsksRightly owned number problem.defs terms values (expr_of number term) →
      AreCallsOf (question_of number problem) (map (expr_of number) terms) values (map (expr_of number) (take (k + 1) items)) calls'
  calls_next items k term calls calls' truths same lt at so_far gains rightly =
      let question = question_of number problem in
      let bodies = map (expr_of number) terms in
      let truth = truth_at items k term truths same lt at in
      let asks_it = asks number problem.defs terms values (expr_of number term) in
      let taken : All (IsCallOf (wanted_of question)) asks_it =
      All-weaker (Contains asks_it) (IsCallOf (wanted_of question)) (λ call in_it. call_taken owned number problem terms values term fit are truth rightly call in_it) asks_it (All-contains_itself asks_it) in
      let is = asks_are owned number problem terms values term fit are truth in
      let more : take (k + 1) items ≡ take k items ++ term ∷ [] = take_more items k term lt ∙ ap (λ x. take k items ++ x ∷ []) (sym at) in
      subst (λ all. AreCallsOf question bodies values all calls') (sym (ap (map (expr_of number)) more ∙ map_push (expr_of number) (take k items) term))
      (calls_more question bodies values (map (expr_of number) (take k items)) (expr_of number term) calls calls' so_far
      (subst (λ all. tracing.GainsCalls calls all calls') is gains) (subst (All (IsCallOf (wanted_of question))) is taken))

  pub leaves_next : (items : List (Term T N)) (k : ℕ) (term : Term T N) → All (IsTruth owned number problem) problem.constraints → items ≡ problem.constraints → k < length items → term ≡ get_or items k term →
      can_compute number problem.defs terms values (expr_of number term) ≡ false → OneLeaves (question_of number problem) (map (expr_of number) terms) values (map (expr_of number) problem.constraints)
  leaves_next items k term truths same lt at cannot =
      subst (λ all. OneLeaves (question_of number problem) (map (expr_of number) terms) values (map (expr_of number) all)) same
      (one_leaves (question_of number problem) (map (expr_of number) terms) values (map (expr_of number) items) (expr_of number term) (has_at (expr_of number) items k term lt at)
      (says_leaves owned number problem terms values term fit are (truth_at items k term truths same lt at) cannot))

  pub calls_done : (items : List (Term T N)) (k : ℕ) (calls : List (ℕ × List Val)) → items ≡ problem.constraints → length items ≤ k →
      AreCallsOf (question_of number problem) (map (expr_of number) terms) values (map (expr_of number) (take k items)) calls → AreCalls (question_of number problem) (map (expr_of number) terms) values calls
  calls_done items k calls same le so_far =
      calls_all (question_of number problem) (map (expr_of number) terms) values calls
      (subst (λ all. AreCallsOf (question_of number problem) (map (expr_of number) terms) values (map (expr_of number) all) calls) (take_all k items le ∙ same) so_far)

-- what becomes of calls of the trace at an assignment of the history
module _ (question : Question) (limits : Limits) (history : List Counterexample) (bodies : List Expr) (c : Counterexample) (calls : List (ℕ × List Val))
    (taken : All (IsCallOf (wanted_of question)) calls) (traced : (call : ℕ × List Val) → Contains calls call → Contains (trace question bodies c.assignment) call) where
  taken_at : (function : ℕ) (tuple : List Val) → Contains calls (function, tuple) → IsCallOf (wanted_of question) (function, tuple)
  taken_at function tuple at = All-contains (IsCallOf (wanted_of question)) calls (function, tuple) taken at

  -- they are of functions to be found
  pub within_held : (before : Asked) → IsHeld question limits history before → (function : ℕ) (tuple : List Val) → Contains calls (function, tuple) → function < length before.tuples
  within_held before held function tuple at =
      let it = taken_at function tuple at in
      omega (arith, slice_get_within (wanted_of question) function it.signature it.at, held.functions, length-map question.goals (λ (goal : Goal). goal.signature))

  -- what is held after they were added
  pub held_with : (before after : Asked) → IsHeld question limits history before → GainsTuples calls before after → IsHeld question limits history after
  held_with before after held gains = record {
    assigned = held.assigned;
    limit = gains.limit ∙ held.limit;
    functions = gains.functions ∙ held.functions;
    bounded = gains.bounded held.bounded;
    taken = λ function tuple is. ⊎_elim
        (λ (old : IsAsked before function tuple). held.taken function tuple old)
        (λ (new : Contains calls (function, tuple)). taken_at function tuple new)
        (gains.only function tuple is);
  }

  pub widened : (before after : Asked) (place : ℕ) → slice_get history place ≡ Some c → GainsTuples calls before after → Widens question history bodies before after
  widened before after place at gains = record {
    keeps = gains.keeps;
    only = λ function tuple is. ⊎_elim
        (λ (old : IsAsked before function tuple). inl old)
        (λ (new : Contains calls (function, tuple)). inr (record { counterexample = c; stored = has_place history place c at; asks = traced (function, tuple) new }))
        (gains.only function tuple is);
    less = gains.less;
  }

module _ (question : Question) (history : List Counterexample) (bodies : List Expr) where
  pub widens_not : (asked : Asked) → Widens question history bodies asked asked
  widens_not asked = record { keeps = λ function tuple at. at; only = λ function tuple at. inl at; less = omega arith }

  pub widens_then : (before now after : Asked) → Widens question history bodies before now → Widens question history bodies now after → Widens question history bodies before after
  widens_then before now after first second = record {
    keeps = λ function tuple at. second.keeps function tuple (first.keeps function tuple at);
    only = λ function tuple at. ⊎_elim
        (λ (old : IsAsked now function tuple). first.only function tuple old)
        (λ (new : IsAskedBy question history bodies function tuple). inr new)
        (second.only function tuple at);
    less = omega (arith, first.less, second.less);
  }

  pub grows_by : (before after : Asked) → Widens question history bodies before after → TuplesGrow before after
  grows_by before after widens = record { keeps = widens.keeps; less = widens.less }

  -- what is known after a candidate asked
  pub known_wider : (reach : Reach) (limits : Limits) (before after : Asked) → IsCandidate reach question limits.size history bodies → IsKnown reach question limits history before → IsHeld question limits history after →
      Widens question history bodies before after → IsKnown reach question limits history after
  known_wider reach limits before after candidate known held widens = record {
    held = held;
    honest = known.honest;
    met = λ function tuple is. ⊎_elim
        (λ (old : IsAsked before function tuple). known.met function tuple old)
        (λ (new : IsAskedBy question history bodies function tuple). record {
          number = candidate.number;
          number_open = candidate.number_open;
          bodies = bodies;
          bound = tried_in_bound reach question limits.size history candidate.number bodies candidate.by;
          counterexample = new.counterexample;
          stored = new.stored;
          asks = new.asks;
        })
        (widens.only function tuple is);
  }

pub grows_not : (asked : Asked) → TuplesGrow asked asked
grows_not asked = record { keeps = λ function tuple at. at; less = omega arith }

pub grows_then : (before now after : Asked) → TuplesGrow before now → TuplesGrow now after → TuplesGrow before after
grows_then before now after first second = record { keeps = λ function tuple at. second.keeps function tuple (first.keeps function tuple at); less = omega (arith, first.less, second.less) }

-- what became of all calls of a trace
pub asks_at : (question : Question) (history : List Counterexample) (bodies : List Expr) (c : Counterexample) (calls : List (ℕ × List Val)) (before after : Asked) (place : ℕ) (adding : Adding) → slice_get history place ≡ Some c → AreCalls question bodies c.assignment calls →
    AddsCalls calls before after adding → AsksAt question history bodies place before after (Some adding)
asks_at question history bodies c calls before after place There at are adds =
    (record { counterexample = c; at = at; there = λ function tuple in_trace. adds.0 function tuple (are.all (function, tuple) in_trace) }, adds.1)
asks_at question history bodies c calls before after place New at are adds =
    (record { counterexample = c; at = at; there = λ function tuple in_trace. adds.0 function tuple (are.all (function, tuple) in_trace) }, adds.1)
asks_at question history bodies c calls before after place (Full function) at are adds =
    record { counterexample = c; at = at; tuple = adds.tuple; asks = are.only (function, adds.tuple) adds.of; within = adds.within; new = adds.new; full = adds.full }

pub asks_leaves : (question : Question) (history : List Counterexample) (bodies : List Expr) (c : Counterexample) (place : ℕ) → slice_get history place ≡ Some c → OneLeaves question bodies c.assignment question.constraints → LeavesRangeAt question history bodies place
asks_leaves question history bodies c place at one = record {
  counterexample = c;
  at = at;
  leaves = record { term = one.term; of = Contains-append_right question.assumptions question.constraints one.term one.of; leaves = one.leaves };
}

-- what became of bodies that are due, so far
abbrev pub SoFar : Asked → Asked → Trial → Type 0
SoFar before after Due = after ≡ before
SoFar before after Refuted = ⊥
SoFar before after Asks = room after < room before
SoFar before after (trials.Full function place) = ⊥
SoFar before after (Leaves place) = ⊥

so_far_less : (before after : Asked) (trial : Trial) → SoFar before after trial → room after ≤ room before
so_far_less before after Due so_far = omega (arith, ap room so_far)
so_far_less before after Refuted so_far = absurd so_far
so_far_less before after Asks so_far = omega (arith, so_far)
so_far_less before after (trials.Full function place) so_far = absurd so_far
so_far_less before after (Leaves place) so_far = absurd so_far

pub so_far_there : (before now after : Asked) (trial : Trial) → SoFar before now trial → after ≡ now → SoFar before after trial
so_far_there before now after trial so_far same = subst (λ asked. SoFar before asked trial) (sym same) so_far

pub so_far_new : (before now after : Asked) (trial : Trial) → SoFar before now trial → room after < room now → SoFar before after Asks
so_far_new before now after trial so_far less = omega (arith, less, so_far_less before now trial so_far)

-- the assignments so far
module _ (question : Question) (history : List Counterexample) (bodies : List Expr) where
  pub traced_next : (now after : Asked) (place : ℕ) → AreTraced question (take place history) now bodies → Widens question history bodies now after → IsTracedAt question history after bodies place → AreTraced question (take (place + 1) history) after bodies
  traced_next now after place traced widens it =
      let P : Counterexample → Type 0 = λ c. IsTraced question after bodies c.assignment in
      let kept : All P (take place history) = All-weaker (λ (c : Counterexample). IsTraced question now bodies c.assignment) P (λ c was function tuple at. widens.keeps function tuple (was function tuple at)) (take place history) traced in
      let c = it.counterexample in
      rw (take_more history place c (slice_get_within history place c it.at), get_or_from_slice_get history place c c it.at)
      (All-push P (take place history) c kept it.there)

  pub tries_all : (before after : Asked) (place : ℕ) (trial : Trial) → length history ≤ place → MeetAll question history bodies → AreTraced question (take place history) after bodies → SoFar before after trial →
      Tries question history bodies before after trial
  tries_all before after place Due done meets traced so_far =
      (meets, subst (λ all. AreTraced question all after bodies) (take_all place history done) traced, so_far)
  tries_all before after place Refuted done meets traced so_far = absurd so_far
  tries_all before after place Asks done meets traced so_far = so_far
  tries_all before after place (trials.Full function at) done meets traced so_far = absurd so_far
  tries_all before after place (Leaves at) done meets traced so_far = absurd so_far
