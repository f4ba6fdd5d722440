-- What follows of all conditional trees where nothing new is learned of one.
use Rattle.std.specs.Prelude.{ℕ, ◌+◌, ◌≡◌, ◌<◌, List, [], ◌∷◌, Bool, length, Some, refl}
use Rattle.std.proofs.Common.{arith, ap, sym, ◌∙◌, subst}
use Rattle.sy_terms.specs.Expr.{Expr}
use Rattle.sy_terms.specs.Meaning.{functions}
use Rattle.sy_grammar_base.specs.Questions.{Goal, Question}
use Rattle.sy_query_limits.specs.declared.Limits.{Limits}
use Rattle.sy_unify.specs.Unify.{IsUncovered, ServesPoints}
use Rattle.sy_unify.specs.declared.choice.Choice.{Choice}
use Rattle.sy_points.specs.Asked.{Asked, of_function}
use Rattle.sy_bank_level.specs.Banks.{Entry, Merged}
use Rattle.sy_loop_spec.specs.Bounds.{IsJoinedWithin}
use Rattle.sy_loop_spec.specs.Conditional.{IsTreeRule, yield}
use Rattle.sy_loop_spec.specs.Pointwise.{IsPointwise}
use Rattle.sy_loop_spec.specs.declared.reach.Reach.{Reach}
use Rattle.sy_loop_spec.specs.declared.reach.Reach.TheVariants.{Sizes, Joins}
use Rattle.sy_loop_spec.specs.Histories.{Counterexample, IsViolatedIn}
use Rattle.sy_loop_spec.specs.Trials.{IsRefuted}
use Rattle.sy_loop_truth.specs.Known.{IsKnown}
use Rattle.sy_loop_spec.specs.Agreeing.{AssumptionsAskNothing}
use Rattle.sy_loop_spec.specs.Refuting.{AllTreesViolate}
use Rattle.sy_loop_goods.specs.declared.goods.Goods.{Goods}
use Rattle.sy_loop_spec.specs.Goods.{AreGoods, assignments_of}
use Rattle.sy_loop_spec.specs.Goods.{EntriesHaveRows}
use Rattle.sy_loop_spec.specs.Trees.{conditional_of, kept_below, truths}
use Rattle.sy_loop_spec.proofs.Kept.{kept_have_rows}
use Rattle.sy_loop_spec.proofs.Trees.{pointless_violates, served_violates, uncovered_violates}
use Rattle.sy_loop.specs.Joining.{AreParts, IsJoinable, TreesFollowFrom}

trees_violate : (reach : Reach) (question : Question) (history : List Counterexample) (n : ℕ) → ((bodies : List Expr) → IsJoinedWithin question n bodies → IsViolatedIn question history bodies) → AllTreesViolate reach question history n
trees_violate Sizes question history n all = tt
trees_violate Joins question history n all = all

no_items : {X : Type 0} (xs : List X) → length xs ≡ 0 → xs ≡ []
no_items [] none = refl
no_items (x ∷ xs) none = absurd (omega (arith, none))

module _ (reach : Reach) (question : Question) (limits : Limits) (history : List Counterexample) (asked : Asked) (nothing : AssumptionsAskNothing question) (n : ℕ) (bank : Merged) where
  -- nothing is asked of the function
  pub none_follow : length (of_function asked 0) ≡ 0 → TreesFollowFrom reach question history asked n bank
  none_follow none covering all = trees_violate reach question history n (pointless_violates question history asked n nothing (no_items (of_function asked 0) none) all)

  module _ (known : IsKnown reach question limits history asked) (pointwise : IsPointwise question) (joinable : IsJoinable question asked bank)
      (condition rule points : ℕ) (leaves conditions : List Entry) (goods : Goods) (rows : List (List Bool)) (chooses : IsTreeRule joinable.goal.grammar rule condition)
      (parts : AreParts question history asked condition n bank leaves conditions goods rows points) (good : AreGoods question (assignments_of history) (of_function asked 0) leaves goods.rows) where
    long : points ≡ length bank.points
    long = parts.points_are ∙ ap length (sym joinable.over)

    rows_are : rows ≡ truths (kept_below bank.levels condition (n + 1))
    rows_are = parts.rows_are ∙ ap truths parts.conditions_are

    -- no tree serves a class of points
    pub uncovered_follow : (class : List ℕ) → IsUncovered goods.rows rows (λ x. x < points) class → TreesFollowFrom reach question history asked n bank
    uncovered_follow class uncovered covering all =
        let found : Some joinable.goal ≡ Some covering.goal = sym joinable.at ∙ covering.at in
        let same : joinable.goal ≡ covering.goal = cc in
        let chooses' = subst (λ (goal : Goal). IsTreeRule goal.grammar rule condition) same chooses in
        let good' = subst (λ ps. AreGoods question (assignments_of history) ps (kept_below bank.levels 0 (n + 1)) goods.rows) (sym joinable.over) (subst (λ (ls : List Entry). AreGoods question (assignments_of history) (of_function asked 0) ls goods.rows) parts.leaves_are good) in
        let uncovered' = subst (λ (p : ℕ). IsUncovered goods.rows (truths (kept_below bank.levels condition (n + 1))) (λ x. x < p) class) long (subst (λ r. IsUncovered goods.rows r (λ x. x < points) class) rows_are uncovered) in
        trees_violate reach question history n
        (uncovered_violates reach question limits.size limits.rounds n condition rule history asked bank goods.rows class known.honest nothing covering chooses' good' uncovered')

    -- the tree that serves all points is refuted
    pub served_follow : (tree : Choice) (body : Expr) → ServesPoints goods.rows rows (λ x. x < points) tree → body ≡ yield (conditional_of leaves conditions tree) → IsRefuted question history asked (body ∷ []) → TreesFollowFrom reach question history asked n bank
    served_follow tree body serves is refuted covering all =
        let tuples = of_function asked 0 in
        let have : EntriesHaveRows (functions question.definitions) tuples conditions =
        subst (λ (cs : List Entry). EntriesHaveRows (functions question.definitions) tuples cs) (sym parts.conditions_are)
        (subst (λ ps. EntriesHaveRows (functions question.definitions) ps (kept_below bank.levels condition (n + 1))) joinable.over (kept_have_rows joinable.goal.grammar (functions question.definitions) question.pool bank joinable.honest condition (n + 1))) in
        let serves' = subst (λ (p : ℕ). ServesPoints goods.rows (truths conditions) (λ x. x < p) tree) parts.points_are (subst (λ r. ServesPoints goods.rows r (λ x. x < points) tree) parts.rows_are serves) in
        trees_violate reach question history n
        (λ bodies joined. served_violates reach question limits.size limits.rounds history asked tuples leaves conditions goods.rows tree known.honest nothing pointwise have good parts.rest serves'
        (subst (λ (b : Expr). IsRefuted question history asked (b ∷ [])) is refuted) bodies)
