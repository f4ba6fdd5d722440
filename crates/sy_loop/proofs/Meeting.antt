-- A tree that is good at each point meets the problem at each assignment of the history, where each constraint rests on a point.
use Rattle.std.specs.Prelude.{ℕ, zero, suc, ◌+◌, ◌<◌, ◌≡◌, Bool, true, List, [], ◌∷◌, length, slice_get, Option, None, Some, Contains, refl}
use Rattle.std.specs.List.{list_all}
use Rattle.std.proofs.Common.{arith, sym, subst, inl, inr}
use Rattle.std.proofs.lemmas.Bool.{true≢false}
use Rattle.std.proofs.lemmas.Option.{slice_get_within}
use Rattle.std.proofs.lemmas.List.Elements.{All-weaker, All-contains_itself}
use Rattle.sy_terms.specs.Values.{Val}
use Rattle.sy_terms.specs.Expr.{Expr}
use Rattle.sy_terms.specs.Meaning.{functions}
use Rattle.sy_terms_operators.proofs.Equations.{both_true}
use Rattle.sy_grammar_base.specs.Questions.{Question}
use Rattle.sy_grammar_base.specs.Solving.{IsTrueUnder, Meets}
use Rattle.sy_query_limits.specs.declared.Limits.{Limits}
use Rattle.sy_unify.specs.Unify.{ServesPoints}
use Rattle.sy_unify.specs.declared.choice.Choice.{Choice}
use Rattle.sy_points.specs.Asked.{Asked, of_function}
use Rattle.sy_bank_level.specs.Banks.{Entry, Merged}
use Rattle.sy_loop_spec.specs.Applications.{applications}
use Rattle.sy_loop_spec.specs.Conditional.{yield}
use Rattle.sy_loop_spec.specs.Pointwise.{IsPointwise}
use Rattle.sy_loop_spec.specs.WrittenOut.{written_out}
use Rattle.sy_loop_spec.specs.declared.reach.Reach.{Reach}
use Rattle.sy_loop_spec.proofs.Applied.{in_nothing}
use Rattle.sy_loop_spec.proofs.Goodness.{rests_or_not}
use Rattle.sy_loop_spec.specs.Histories.{Counterexample, IsHonestHistory}
use Rattle.sy_loop_truth.specs.Known.{IsKnown}
use Rattle.sy_loop_truth.specs.Traces.{MeetAll}
use Rattle.sy_loop_truth.proofs.Items.{has_at}
use Rattle.sy_loop_pointwise.specs.Posed.{ArePosed, PosesConstraint}
use Rattle.sy_loop_pointwise.specs.declared.posed.Posed.{Posed}
use Rattle.sy_loop_pointwise.specs.declared.posed.Posed.TheVariants.{Free, Applies}
use Rattle.sy_loop_goods.specs.declared.goods.Goods.{Goods}
use Rattle.sy_loop_goods.specs.declared.goods.Leaving.{Leaving}
use Rattle.sy_loop_spec.specs.Goods.{AllRestWithin, AreGoods, assignments_of}
use Rattle.sy_loop_spec.specs.Goods.{EntriesHaveRows}
use Rattle.sy_loop_spec.specs.Trees.{conditional_of, kept_below, truths}
use Rattle.sy_loop_spec.proofs.Kept.{kept_have_rows}
use Rattle.sy_loop_spec.proofs.Merged.{numbered}
use Rattle.sy_loop_spec.proofs.Served.{served_is_good}
use Rattle.sy_loop_spec.proofs.Violated.{all_assigned}
use Rattle.sy_loop.specs.Applying.{has_application, are_known}
use Rattle.sy_loop.specs.Joining.{AreParts, IsJoinable}

-- each constraint, written out, applies the function to be found
abbrev pub EachApplies : Question → Type 0
EachApplies question = (constraint : Expr) → Contains question.constraints constraint → applications (written_out question constraint) ≡ [] → ⊥

-- of each leaf it is known where it is good
pub none_leaves : (leaving : Option Leaving) → are_known leaving ≡ true → leaving ≡ None
none_leaves None known = refl
none_leaves (Some leaving) known = absurd (true≢false (sym known))

-- what is kept of the constraint of a number
applied_at : {T N : Type 0} (all : List (Posed T N)) (k : ℕ) → list_all has_application all ≡ true → k < length all → (posed : Posed T N) × (slice_get all k ≡ Some posed) × (has_application posed ≡ true)
applied_at [] k every within = absurd (omega (arith, within))
applied_at (posed ∷ all) zero every within = (posed, refl, (both_true (has_application posed) (list_all has_application all) every).0)
applied_at (posed ∷ all) (suc k) every within = applied_at all k (both_true (has_application posed) (list_all has_application all) every).1 (omega (arith, within))

-- it has an application
not_nothing : {T N : Type 0} (question : Question) (constraint : Expr) (posed : Posed T N) → PosesConstraint question constraint posed → has_application posed ≡ true → applications (written_out question constraint) ≡ [] → ⊥
not_nothing question constraint Free poses has none = absurd (true≢false (sym has))
not_nothing question constraint (Applies shapes call) poses has none = in_nothing poses.application (subst (λ all. Contains all poses.application) none poses.of)

pub each_applies : {T N : Type 0} (question : Question) (all : List (Posed T N)) → ArePosed question all → list_all has_application all ≡ true → EachApplies question
each_applies question all are every constraint of none =
    let at = numbered question.constraints constraint of in
    let within = slice_get_within question.constraints at.0 constraint at.1 in
    let many = are.many in
    let posed = applied_at all at.0 every (omega (arith, within, many)) in
    not_nothing question constraint posed.0 (are.each at.0 constraint posed.0 at.1 posed.1) posed.2 none

-- a tree that serves all points
module _ (reach : Reach) (question : Question) (limits : Limits) (history : List Counterexample) (points : List (List Val)) (leaves conditions : List Entry) (goods : List (List Bool)) (tree : Choice)
    (honest : IsHonestHistory reach question limits.size limits.rounds history) (pointwise : IsPointwise question) (rows : EntriesHaveRows (functions question.definitions) points conditions)
    (good : AreGoods question (assignments_of history) points leaves goods) (rests : AllRestWithin question (assignments_of history) points) (serves : ServesPoints goods (truths conditions) (λ x. x < length points) tree)
    (applied : EachApplies question) where
  true_there : (c : Counterexample) (constraint : Expr) → Contains history c → Contains question.constraints constraint → IsTrueUnder question (yield (conditional_of leaves conditions tree) ∷ []) c.assignment constraint
  true_there c constraint stored of =
      let there = has_at (λ (k : Counterexample). k.assignment) history stored.0 c stored.1 (sym stored.2) in
      elim (rests_or_not question c.assignment constraint) [
        | inl none ↦ absurd (applied constraint of none)
        | inr on ↦
            let at = numbered points on.0 (rests c.assignment constraint on.0 there of on.1) in
            let is = served_is_good question (assignments_of history) points leaves conditions goods tree pointwise (all_assigned reach question limits.size limits.rounds history honest) good rows serves at.0 on.0 at.1 in
            is.each c.assignment constraint there of on.1
      ]

  served_meets : MeetAll question history (yield (conditional_of leaves conditions tree) ∷ [])
  served_meets =
      All-weaker (Contains history) (λ (c : Counterexample). Meets question (yield (conditional_of leaves conditions tree) ∷ []) c.assignment)
      (λ c stored assumed.
      All-weaker (Contains question.constraints) (IsTrueUnder question (yield (conditional_of leaves conditions tree) ∷ []) c.assignment) (λ constraint of. true_there c constraint stored of) question.constraints (All-contains_itself question.constraints))
      history (All-contains_itself history)

-- the tree over kept parts that serves all points
pub tree_meets : (reach : Reach) (question : Question) (limits : Limits) (history : List Counterexample) (asked : Asked) (n : ℕ) (bank : Merged) (known : IsKnown reach question limits history asked) (pointwise : IsPointwise question) (joinable : IsJoinable question asked bank)
    (condition points : ℕ) (leaves conditions : List Entry) (goods : Goods) (rows : List (List Bool)) (parts : AreParts question history asked condition n bank leaves conditions goods rows points)
    (good : AreGoods question (assignments_of history) (of_function asked 0) leaves goods.rows) (tree : Choice) (body : Expr) → ServesPoints goods.rows rows (λ x. x < points) tree → body ≡ yield (conditional_of leaves conditions tree) →
    EachApplies question → MeetAll question history (body ∷ [])
tree_meets reach question limits history asked n bank known pointwise joinable condition points leaves conditions goods rows parts good tree body serves is applied =
    let tuples = of_function asked 0 in
    let have : EntriesHaveRows (functions question.definitions) tuples conditions =
    subst (λ (cs : List Entry). EntriesHaveRows (functions question.definitions) tuples cs) (sym parts.conditions_are)
    (subst (λ ps. EntriesHaveRows (functions question.definitions) ps (kept_below bank.levels condition (n + 1))) joinable.over (kept_have_rows joinable.goal.grammar (functions question.definitions) question.pool bank joinable.honest condition (n + 1))) in
    let serves' = subst (λ (p : ℕ). ServesPoints goods.rows (truths conditions) (λ x. x < p) tree) parts.points_are (subst (λ r. ServesPoints goods.rows r (λ x. x < points) tree) parts.rows_are serves) in
    subst (λ (b : Expr). MeetAll question history (b ∷ [])) (sym is)
    (served_meets reach question limits history tuples leaves conditions goods.rows tree known.honest pointwise have good parts.rest serves' applied)
