-- What the join of a level says of all conditional trees over parts of sizes up to it.
use Rattle.std.specs.Prelude.{ℕ, zero, suc, ◌+◌, ◌<◌, ◌≡◌, Bool, List, [], ◌∷◌, length, map, slice_get, Some, Contains, refl}
use Rattle.std.proofs.Common.{arith, ap, sym, ◌∙◌, subst, inl, inr}
use Rattle.std.proofs.lemmas.Option.{none-some}
use Rattle.sy_terms.specs.Values.{Val}
use Rattle.sy_terms.specs.Expr.{Expr}
use Rattle.sy_terms.specs.Meaning.{function_from, functions, meaning}
use Rattle.sy_grammar_base.specs.Trees.{Syntax, Tree}
use Rattle.sy_grammar_base.specs.Questions.{Goal, Question}
use Rattle.sy_grammar_base.specs.Solving.{AreWithin}
use Rattle.sy_unify.specs.declared.choice.Choice.{Choice}
use Rattle.sy_unify.specs.Unify.{IsUncovered, ServesPoints}
use Rattle.sy_points.specs.Asked.{Asked, of_function}
use Rattle.sy_bank_level.specs.Banks.{Entry, Merged, IsHonestBank}
use Rattle.sy_loop_spec.specs.Bounds.{IsJoinedWithin}
use Rattle.sy_loop_spec.specs.Pointwise.{IsPointwise}
use Rattle.sy_loop_spec.specs.Conditional.{Conditional, Leaf, Test, yield, IsPart, ArePartsWithin, IsTreeRule}
use Rattle.sy_loop_spec.specs.declared.reach.Reach.{Reach}
use Rattle.sy_loop_spec.proofs.Applied.{in_nothing}
use Rattle.sy_loop_spec.proofs.Resting.{nothing_rests_decides}
use Rattle.sy_loop_spec.proofs.Goodness.{rests_or_not}
use Rattle.sy_loop_spec.proofs.Variables.{many_values}
use Rattle.sy_loop_spec.specs.Adding.{IsAsked}
use Rattle.sy_loop_spec.specs.Histories.{Counterexample, IsHonestHistory, IsViolatedIn}
use Rattle.sy_loop_spec.specs.Trials.{IsRefuted}
use Rattle.sy_loop_spec.specs.Agreeing.{BodiesAgree, AssumptionsAskNothing}
use Rattle.sy_loop_spec.specs.Merging.{IsCoveringOf}
use Rattle.sy_loop_spec.specs.Refuting.{AllRefuted}
use Rattle.sy_loop_spec.proofs.Refuted.{refuted_together, violated_in}
use Rattle.sy_loop_spec.specs.Goods.{AreGoods, AllRestWithin, assignments_of}
use Rattle.sy_loop_spec.specs.Trees.{kept_below, truths, conditional_of}
use Rattle.sy_loop_spec.specs.Goods.{EntriesHaveRows}
use Rattle.sy_loop_spec.proofs.Violated.{assigned, all_assigned, untrue_violates, bad_violates}
use Rattle.sy_loop_spec.proofs.Merged.{numbered}
use Rattle.sy_loop_spec.proofs.Uncovered.{one_condition, uncovered_is_bad}
use Rattle.sy_loop_spec.proofs.Served.{served_is_good, parts_within}

-- the goal of a problem with one
one_goal : (question : Question) (goal other : Goal) → question.goals ≡ goal ∷ [] → slice_get question.goals 0 ≡ Some other → goal ≡ other
one_goal question goal other one at =
    let same : Some goal ≡ Some other = sym (ap (λ (goals : List Goal). slice_get goals 0) one) ∙ at in
    cc

pub uncovered_violates : (reach : Reach) (question : Question) (size rounds n condition rule : ℕ) (history : List Counterexample) (asked : Asked) (bank : Merged) (goods : List (List Bool)) (class : List ℕ) →
    IsHonestHistory reach question size rounds history → AssumptionsAskNothing question → (covering : IsCoveringOf question asked n 0 bank) → IsTreeRule covering.goal.grammar rule condition →
    AreGoods question (assignments_of history) bank.points (kept_below bank.levels 0 (n + 1)) goods →
    IsUncovered goods (truths (kept_below bank.levels condition (n + 1))) (λ x. x < length bank.points) class →
    (bodies : List Expr) → IsJoinedWithin question n bodies → IsViolatedIn question history bodies
uncovered_violates reach question size rounds n condition rule history asked bank goods class honest nothing covering chooses good uncovered bodies joined =
    let same = one_goal question joined.goal covering.goal joined.one covering.at in
    let chosen = subst (λ (goal : Goal). IsTreeRule goal.grammar joined.rule joined.condition) same joined.chooses in
    let own = one_condition covering.goal.grammar joined.rule rule joined.condition condition chosen chooses in
    let within = subst (λ c. ArePartsWithin covering.goal.grammar question.pool c n joined.parts) own (subst (λ (goal : Goal). ArePartsWithin goal.grammar question.pool joined.condition n joined.parts) same joined.within) in
    let somewhere = uncovered_is_bad question (assignments_of history) covering.goal.grammar bank condition n goods class joined.parts
    joined.pointwise (all_assigned reach question size rounds history honest) covering.up covering.honest covering.covers good uncovered within in
    subst (IsViolatedIn question history) (sym joined.is) (bad_violates reach question size rounds history honest nothing somewhere.tuple (yield joined.parts) somewhere.bad)

pub served_violates : (reach : Reach) (question : Question) (size rounds : ℕ) (history : List Counterexample) (asked : Asked) (points : List (List Val)) (leaves conditions : List Entry) (goods : List (List Bool)) (tree : Choice) →
    IsHonestHistory reach question size rounds history → AssumptionsAskNothing question → IsPointwise question → EntriesHaveRows (functions question.definitions) points conditions →
    AreGoods question (assignments_of history) points leaves goods → AllRestWithin question (assignments_of history) points →
    ServesPoints goods (truths conditions) (λ x. x < length points) tree → IsRefuted question history asked (yield (conditional_of leaves conditions tree) ∷ []) →
    (bodies : List Expr) → IsViolatedIn question history bodies
served_violates reach question size rounds history asked points leaves conditions goods tree honest nothing pointwise rows good rests serves refuted bodies =
    let c = refuted.counterexample in
    let stored = refuted.stored in
    let one = refuted.violated.constraint in
    let body = yield (conditional_of leaves conditions tree) in
    let values = c.assignment in
    let many = many_values question.variables values (assigned reach question size rounds history honest c stored) in
    let there = assignment_of history c stored in
    elim (rests_or_not question values one.term) [
      | inl none ↦ untrue_violates reach question size rounds history honest nothing bodies c one.term stored one.of
          (λ holds. one.is.untrue (nothing_rests_decides question (map (function_from (functions question.definitions)) (body ∷ [])) (map (function_from (functions question.definitions)) bodies) values many one.term none ∙ holds))
      | inr on ↦
          let at = numbered points on.0 (rests values one.term on.0 there one.of on.1) in
          let is = served_is_good question (assignments_of history) points leaves conditions goods tree pointwise (all_assigned reach question size rounds history honest) good rows serves at.0 on.0 at.1 in
          absurd (one.is.untrue (is.each values one.term there one.of on.1))
    ]
  where
    assignment_of : (cs : List Counterexample) (c : Counterexample) → Contains cs c → Contains (assignments_of cs) c.assignment
    assignment_of [] c (k, less, at) = absurd (omega (arith, less))
    assignment_of (first ∷ cs) c (zero, less, at) = (0, omega arith, ap (λ (d : Counterexample). d.assignment) at)
    assignment_of (first ∷ cs) c (suc k, less, at) = let below = assignment_of cs c (k, omega (arith, less), at) in let within = below.1 in (suc below.0, omega (arith, within), below.2)

-- the leftmost leaf of a conditional tree is a part of the start symbol
leftmost : (syntax : Syntax) (pool : List Val) (condition n : ℕ) (parts : Conditional) → ArePartsWithin syntax pool condition n parts → (tree : Tree) × (term : Expr) × IsPart syntax pool 0 n tree term
leftmost syntax pool condition n (Leaf tree term) within = (tree, term, within)
leftmost syntax pool condition n (Test tree term there here) within = leftmost syntax pool condition n there within.1

-- where nothing is asked, any two bodies agree
pointless_agree : (question : Question) (asked : Asked) (body other : Expr) → of_function asked 0 ≡ [] → BodiesAgree question asked (body ∷ []) (other ∷ [])
pointless_agree question asked body other none = record { many = refl; each = each }
  where
    each : (function : ℕ) (one two : Expr) (tuple : List Val) → slice_get (body ∷ []) function ≡ Some one → slice_get (other ∷ []) function ≡ Some two → IsAsked asked function tuple →
        meaning (functions question.definitions) [] tuple one ≡ meaning (functions question.definitions) [] tuple two
    each zero one two tuple first second of = absurd (in_nothing tuple (subst (λ tuples. Contains tuples tuple) none of))
    each (suc function) one two tuple first second of = absurd (none-some one first)

pub pointless_violates : (question : Question) (history : List Counterexample) (asked : Asked) (n : ℕ) → AssumptionsAskNothing question → of_function asked 0 ≡ [] → AllRefuted question history asked n →
    (bodies : List Expr) → IsJoinedWithin question n bodies → IsViolatedIn question history bodies
pointless_violates question history asked n nothing none all bodies joined =
    let leaf = leftmost joined.goal.grammar question.pool joined.condition n joined.parts joined.within in
    let part = leaf.2 in
    let member : AreWithin question.pool n (joined.goal ∷ []) (leaf.1 ∷ []) = (leaf.0, part.derives, part.small, tt) in
    let refuted = all (leaf.1 ∷ []) (subst (λ goals. AreWithin question.pool n goals (leaf.1 ∷ [])) (sym joined.one) member) in
    subst (IsViolatedIn question history) (sym joined.is)
    (violated_in question history asked (yield joined.parts ∷ []) (refuted_together question history asked (leaf.1 ∷ []) (yield joined.parts ∷ []) nothing (pointless_agree question asked leaf.1 (yield joined.parts) none) refuted))

-- the goal of a problem with one, of which a bank is
pub the_goal : (goals : List Goal) (goal : Goal) → length goals ≡ 1 → slice_get goals 0 ≡ Some goal → goals ≡ goal ∷ []
the_goal [] goal one at = absurd (omega (arith, one))
the_goal (first ∷ []) goal one at = let same : first ≡ goal = cc in ap (λ (g : Goal). g ∷ []) same
the_goal (first ∷ second ∷ goals) goal one at = absurd (omega (arith, one))

-- a tree over what an honest bank of the function keeps, which serves all points, is in bound
pub served_is_joined : (question : Question) (n condition rule : ℕ) (goal : Goal) (bank : Merged) (goods : List (List Bool)) (tree : Choice) → IsPointwise question → slice_get question.goals 0 ≡ Some goal →
    IsHonestBank goal.grammar (functions question.definitions) question.pool bank → IsTreeRule goal.grammar rule condition → 0 < length bank.points → length goods ≡ length (kept_below bank.levels 0 (n + 1)) →
    ServesPoints goods (truths (kept_below bank.levels condition (n + 1))) (λ x. x < length bank.points) tree →
    IsJoinedWithin question n (yield (conditional_of (kept_below bank.levels 0 (n + 1)) (kept_below bank.levels condition (n + 1)) tree) ∷ [])
served_is_joined question n condition rule goal bank goods tree pointwise at honest chooses some many serves = record {
  goal = goal;
  one = the_goal question.goals goal pointwise.one at;
  pointwise = pointwise;
  rule = rule;
  condition = condition;
  chooses = chooses;
  parts = conditional_of (kept_below bank.levels 0 (n + 1)) (kept_below bank.levels condition (n + 1)) tree;
  within = parts_within goal.grammar (functions question.definitions) question.pool bank honest condition n goods many (λ x. x < length bank.points) 0 some tree serves.good serves.splits;
  is = refl;
}
