-- Kept terms and trees over them as bodies.
use Rattle.std.specs.Prelude.{ℕ, zero, suc, slice_index_or, ◌+◌, ◌≡◌, ◌<◌, ◌≤◌, List, [], ◌∷◌, Bool, true, length, map, slice_get, Some, Contains, refl}
use Rattle.std.specs.Option.{option_map}
use Rattle.std.proofs.Common.{arith, ap, sym, ◌∙◌, subst, inr}
use Rattle.std.proofs.lemmas.List.Elements.{All-weaker, All-contains_itself}
use Rattle.sy_terms.specs.Values.{Val}
use Rattle.sy_terms.specs.Expr.{Expr}
use Rattle.sy_terms.specs.Denoted.{expr_of}
use Rattle.sy_terms.specs.Meaning.{functions}
use Rattle.sy_terms.specs.declared.op.Op.{Op}
use Rattle.sy_terms.specs.declared.op.Op.TheVariants as ops
use Rattle.sy_terms.specs.declared.sort.Sort.{Sort}
use Rattle.sy_terms.specs.declared.sort.Sort.TheVariants as sorts
use Rattle.sy_terms.specs.declared.term.Term.{Term}
use Rattle.sy_terms_operators.specs.Evaluation.{BodiesFit}
use Rattle.sy_grammar_base.specs.Fits.{QuestionFits}
use Rattle.sy_grammar_base.specs.Questions.{Goal, Question, question_of, signatures}
use Rattle.sy_grammar_base.specs.Solving.{AreMembers, AreWithin}
use Rattle.sy_grammar_base.specs.declared.problem.Problem.{Problem}
use Rattle.sy_grammar_base.proofs.Candidates.{bodies_fit}
use Rattle.sy_query_limits.specs.declared.Limits.{Limits}
use Rattle.sy_unify.specs.Unify.{ServesPoints, leaf_count}
use Rattle.sy_unify.specs.declared.choice.Choice.{Choice}
use Rattle.sy_points.specs.Asked.{Asked, of_function}
use Rattle.sy_bank_level.specs.Banks.{Entry, Merged}
use Rattle.sy_bank_level.specs.Rows.{IsRow}
use Rattle.sy_loop_spec.specs.Bounds.{IsJoinedWithin}
use Rattle.sy_loop_spec.specs.Conditional.{IsTreeRule, yield}
use Rattle.sy_loop_spec.specs.Pointwise.{IsPointwise}
use Rattle.sy_loop_spec.specs.declared.reach.Reach.{Reach}
use Rattle.sy_loop_spec.specs.declared.reach.Reach.TheVariants.{Sizes, Joins}
use Rattle.sy_loop_spec.specs.Budgets.{CheckedLeaves}
use Rattle.sy_loop_spec.specs.Histories.{Counterexample, IsCandidate, IsFewJoined, IsMet, IsOpenNumber, MayTry}
use Rattle.sy_loop_spec.proofs.Staying.{may_try}
use Rattle.sy_loop_truth.specs.Known.{IsKnown}
use Rattle.sy_loop_truth.specs.Traces.{LeavesRangeAt}
use Rattle.sy_loop_candidate.proofs.Ending.{candidate_members, checked_leaves, members}
use Rattle.sy_loop_goods.specs.Leaves.{AreLeaves, LeafLeaves}
use Rattle.sy_loop_goods.specs.declared.goods.Goods.{Goods}
use Rattle.sy_loop_goods.specs.declared.goods.Leaving.{Leaving}
use Rattle.sy_loop_spec.specs.Trees.{conditional_of, kept_below, truths}
use Rattle.sy_loop_spec.proofs.Kept.{kept_have_rows, kept_is_part}
use Rattle.sy_loop_spec.proofs.Merged.{numbered}
use Rattle.sy_loop_spec.proofs.Served.{as_many_leaves, parts_within}
use Rattle.sy_loop_spec.proofs.Trees.{the_goal}
use Rattle.sy_loop.specs.Joining.{AreParts, IsJoinable}
use Rattle.sy_loop.specs.Plans.{TriesTrees}

-- candidates fit as bodies
pub candidate_fits : {T N : Type 0} (owned : Op → Bool) (numeric : Sort → Bool) (number : N → Val) (problem : Problem T N) (reach : Reach) (size : ℕ) (history : List Counterexample) (bodies : List (Term T N)) →
    QuestionFits owned numeric (question_of number problem) → (numeric sorts.Int ≡ true → owned ops.Neg ≡ true) → IsCandidate reach (question_of number problem) size history (map (expr_of number) bodies) →
    BodiesFit owned number problem.defs bodies (signatures problem)
candidate_fits owned numeric number problem reach size history bodies fit negation candidate =
    bodies_fit owned numeric number problem bodies fit negation (candidate_members reach (question_of number problem) size history (map (expr_of number) bodies) candidate)

may_join : (reach : Reach) (question : Question) (size : ℕ) (history : List Counterexample) (n : ℕ) (bodies : List Expr) → TriesTrees reach → IsFewJoined reach question size history n bodies → MayTry reach question size history n bodies
may_join Sizes question size history n bodies tries few = absurd tries
may_join Joins question size history n bodies tries few = inr few

-- the tuples of a function
of_place : (lists : List (List (List Val))) (function : ℕ) (tuples : List (List Val)) → slice_get lists function ≡ Some tuples → slice_index_or lists function [] ≡ tuples
of_place [] function tuples at = absurd (cc)
of_place (list ∷ lists) zero tuples at = cc
of_place (list ∷ lists) (suc function) tuples at = of_place lists function tuples at

pub tuples_at : (asked : Asked) (function : ℕ) (tuples : List (List Val)) → slice_get asked.tuples function ≡ Some tuples → of_function asked function ≡ tuples
tuples_at asked function tuples at = of_place asked.tuples function tuples at

-- the grammar of the one function
pub same_rule : (question : Question) (goal other : Goal) (rule condition : ℕ) → slice_get question.goals 0 ≡ Some goal → slice_get question.goals 0 ≡ Some other → IsTreeRule goal.grammar rule condition → IsTreeRule other.grammar rule condition
same_rule question goal other rule condition at there chooses =
    let found : Some goal ≡ Some other = sym at ∙ there in
    let same : goal ≡ other = cc in
    subst (λ (g : Goal). IsTreeRule g.grammar rule condition) same chooses

module _ (question : Question) (asked : Asked) (n : ℕ) (pointwise : IsPointwise question) (bank : Merged) (joinable : IsJoinable question asked bank) where
  -- a kept term of the start symbol is a member of the one grammar, of its size
  pub kept_within : (k : ℕ) (entry : Entry) → slice_get (kept_below bank.levels 0 (n + 1)) k ≡ Some entry → AreWithin question.pool n question.goals (entry.term ∷ [])
  kept_within k entry at =
      let part = kept_is_part joinable.goal.grammar (functions question.definitions) question.pool bank joinable.honest 0 n k entry at in
      let within : AreWithin question.pool n (joinable.goal ∷ []) (entry.term ∷ []) = (entry.tree, part.derives, part.small, tt) in
      subst (λ goals. AreWithin question.pool n goals (entry.term ∷ [])) (sym (the_goal question.goals joinable.goal pointwise.one joinable.at)) within

  -- kept terms are leaves
  pub kept_are_leaves : (leaves : List Entry) → leaves ≡ kept_below bank.levels 0 (n + 1) → AreLeaves question (of_function asked 0) leaves
  kept_are_leaves leaves are = subst (AreLeaves question (of_function asked 0)) (sym are) (record {
    members = All-weaker (Contains (kept_below bank.levels 0 (n + 1))) (λ (entry : Entry). AreMembers question.goals (entry.term ∷ []))
        (λ entry of. let at = numbered (kept_below bank.levels 0 (n + 1)) entry of in members question.pool n question.goals (entry.term ∷ []) (kept_within at.0 entry at.1))
        (kept_below bank.levels 0 (n + 1)) (All-contains_itself (kept_below bank.levels 0 (n + 1)));
    rows = subst (λ points. (place : ℕ) (entry : Entry) → slice_get (kept_below bank.levels 0 (n + 1)) place ≡ Some entry → IsRow (functions question.definitions) points entry.term entry.row) joinable.over
        (kept_have_rows joinable.goal.grammar (functions question.definitions) question.pool bank joinable.honest 0 (n + 1));
  })

module _ (reach : Reach) (question : Question) (limits : Limits) (history : List Counterexample) (asked : Asked) (known : IsKnown reach question limits history asked) (n : ℕ) (opened : IsOpenNumber reach question limits.size history n)
    (pointwise : IsPointwise question) (bank : Merged) (joinable : IsJoinable question asked bank) where
  leaf_candidate : (k : ℕ) (entry : Entry) → slice_get (kept_below bank.levels 0 (n + 1)) k ≡ Some entry → IsCandidate reach question limits.size history (entry.term ∷ [])
  leaf_candidate k entry at = record { number = n; number_open = opened; by = may_try reach question limits.size history n (entry.term ∷ []) (kept_within question asked n pointwise bank joinable k entry at) }

  -- a leaf under which a term of the problem leaves the range
  pub leaf_leaves : (leaves : List Entry) (leaving : Leaving) (entry : Entry) (assignment : List Val) → leaves ≡ kept_below bank.levels 0 (n + 1) → length history < limits.rounds → LeafLeaves question history leaves leaving → slice_get leaves leaving.leaf ≡ Some entry →
      option_map (λ (k : Counterexample). k.assignment) (slice_get history leaving.place) ≡ Some assignment → CheckedLeaves reach question limits.size limits.rounds history (entry.term ∷ []) assignment
  leaf_leaves leaves leaving entry assignment are room is at there =
      let found : Some is.entry ≡ Some entry = sym is.at ∙ at in
      let same : is.entry ≡ entry = cc in
      let kept : slice_get (kept_below bank.levels 0 (n + 1)) leaving.leaf ≡ Some entry = subst (λ (all : List Entry). slice_get all leaving.leaf ≡ Some entry) are at in
      checked_leaves reach question limits history (entry.term ∷ []) leaving.place assignment known.honest room (leaf_candidate leaving.leaf entry kept)
      (subst (λ (e : Entry). LeavesRangeAt question history (e.term ∷ []) leaving.place) same is.leaves_at) there

  -- a tree that serves all points
  pub tree_candidate : (condition rule points : ℕ) (leaves conditions : List Entry) (goods : Goods) (rows : List (List Bool)) (tree : Choice) (body : Expr) → TriesTrees reach → IsTreeRule joinable.goal.grammar rule condition →
      AreParts question history asked condition n bank leaves conditions goods rows points → ServesPoints goods.rows rows (λ x. x < points) tree → leaf_count tree ≤ points → body ≡ yield (conditional_of leaves conditions tree) →
      IsCandidate reach question limits.size history (body ∷ [])
  tree_candidate condition rule points leaves conditions goods rows tree body tries chooses parts serves few is =
      let kept = kept_below bank.levels 0 (n + 1) in
      let tests = kept_below bank.levels condition (n + 1) in
      let tuples = of_function asked 0 in
      let long : points ≡ length bank.points = parts.points_are ∙ ap length (sym joinable.over) in
      let rows_are : rows ≡ truths tests = parts.rows_are ∙ ap truths parts.conditions_are in
      let serves' : ServesPoints goods.rows (truths tests) (λ x. x < length bank.points) tree = subst (λ r. ServesPoints goods.rows r (λ x. x < length bank.points) tree) rows_are (subst (λ (p : ℕ). ServesPoints goods.rows rows (λ x. x < p) tree) long serves) in
      let within = parts_within joinable.goal.grammar (functions question.definitions) question.pool bank joinable.honest condition n goods.rows (parts.many ∙ ap length parts.leaves_are) (λ x. x < length bank.points) 0 (omega (arith, parts.some, long)) tree serves'.good serves'.splits in
      let joined : IsJoinedWithin question n (yield (conditional_of kept tests tree) ∷ []) = record {
        goal = joinable.goal;
        one = the_goal question.goals joinable.goal pointwise.one joinable.at;
        pointwise = pointwise;
        rule = rule;
        condition = condition;
        chooses = chooses;
        parts = conditional_of kept tests tree;
        within = within;
        is = refl;
      } in
      let many = as_many_leaves kept tests tree in
      let short : leaf_count tree ≤ length tuples = omega (arith, few, parts.points_are) in
      let same : yield (conditional_of leaves conditions tree) ≡ yield (conditional_of kept tests tree) = ap (λ (ls : List Entry). yield (conditional_of ls conditions tree)) parts.leaves_are ∙ ap (λ (cs : List Entry). yield (conditional_of kept cs tree)) parts.conditions_are in
      let by : IsFewJoined reach question limits.size history n (yield (conditional_of kept tests tree) ∷ []) = record {
        joined = joined;
        tuples = tuples;
        distinct = parts.distinct;
        met = All-weaker (Contains tuples) (IsMet reach question limits.size history 0) (λ tuple at. known.met 0 tuple at) tuples (All-contains_itself tuples);
        few = subst (λ (m : ℕ). m ≤ length tuples) (sym many) short;
      } in
      subst (λ (b : Expr). IsCandidate reach question limits.size history (b ∷ [])) (sym (is ∙ same))
      (record { number = n; number_open = opened; by = may_join reach question limits.size history n (yield (conditional_of kept tests tree) ∷ []) tries by })
