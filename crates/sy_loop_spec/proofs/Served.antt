-- Trees that serve all points: their leaves are good where they are reached.
use Rattle.std.specs.Prelude.{ℕ, zero, suc, ◌+◌, ◌<◌, ◌≡◌, Bool, true, false, List, [], ◌∷◌, length, map, slice_get, Some, All, refl, if◌then◌else◌}
use Rattle.std.proofs.Common.{arith, ap, sym, ◌∙◌, subst}
use Rattle.std.proofs.lemmas.Bool.{true≢false}
use Rattle.std.proofs.lemmas.List.{length-map}
use Rattle.std.proofs.lemmas.Option.{slice_get-get_or, slice_get_within}
use Rattle.sy_terms.specs.Values.{Val, truth}
use Rattle.sy_terms.specs.Expr.{Expr}
use Rattle.sy_terms.specs.Meaning.{Function, functions, meaning}
use Rattle.sy_grammar_base.specs.Trees.{Syntax}
use Rattle.sy_grammar_base.specs.Questions.{Question}
use Rattle.sy_grammar_base.specs.Solving.{AreValues}
use Rattle.sy_unify.specs.declared.choice.Choice.{Choice, Leaf, Test'}
use Rattle.sy_unify.specs.Rows.{holds_at}
use Rattle.sy_unify.specs.Unify as unify
use Rattle.sy_unify.specs.Unify.{EachTestSplits, ServesPoints, leaf_count}
use Rattle.sy_bank_level.specs.Banks.{Entry, Merged, IsHonestBank}
use Rattle.sy_loop_spec.specs.Pointwise.{IsPointwise}
use Rattle.sy_loop_spec.specs.Resting.{IsGoodAt}
use Rattle.sy_loop_spec.specs.Conditional.{yield, leaves as leaves_of, leaf_reached, ArePartsWithin}
use Rattle.sy_loop_spec.proofs.Goodness.{tree_is_good}
use Rattle.sy_loop_spec.specs.Goods.{AreGoods}
use Rattle.sy_loop_spec.specs.Trees.{kept_below, truths, entry_at, conditional_of, nothing_kept}
use Rattle.sy_loop_spec.specs.Goods.{EntriesHaveRows}
use Rattle.sy_loop_spec.proofs.Kept.{kept_is_part, row_says, truths_say}

-- the row of a condition says where it is true; so does the row of none
condition_says : (defined : List Function) (points : List (List Val)) (x : ℕ) (point : List Val) → slice_get points x ≡ Some point → (conditions : List Entry) (test : ℕ) → EntriesHaveRows defined points conditions →
    truth (meaning defined [] point (entry_at conditions test).term) ≡ holds_at (truths conditions) test x
unfolding meaning
condition_says defined points x point at [] test rows = refl
condition_says defined points x point at (entry ∷ conditions) zero rows =
    ap truth (sym (row_says defined points entry.term entry.row x point (rows 0 entry refl) at)) ∙ sym (truths_say (entry ∷ conditions) 0 x entry refl)
condition_says defined points x point at (entry ∷ conditions) (suc test) rows = condition_says defined points x point at conditions test (λ place other is. rows (suc place) other is)

-- a choice reaches the same leaf by its rows as the conditional tree does by its conditions
choice_reaches : (defined : List Function) (points : List (List Val)) (x : ℕ) (point : List Val) → slice_get points x ≡ Some point → (leaves conditions : List Entry) → EntriesHaveRows defined points conditions → (tree : Choice) →
    leaf_reached defined point (conditional_of leaves conditions tree) ≡ (entry_at leaves (unify.reached (truths conditions) x tree)).term
choice_reaches defined points x point at leaves conditions rows (Leaf leaf) = refl
choice_reaches defined points x point at leaves conditions rows (Test' test p there q here) =
    both_sides (truth (meaning defined [] point (entry_at conditions test).term)) (holds_at (truths conditions) test x) (condition_says defined points x point at conditions test rows)
    (leaf_reached defined point (conditional_of leaves conditions there)) (leaf_reached defined point (conditional_of leaves conditions here))
    (unify.reached (truths conditions) x there) (unify.reached (truths conditions) x here)
    (choice_reaches defined points x point at leaves conditions rows there) (choice_reaches defined points x point at leaves conditions rows here)
  where
    both_sides : (one other : Bool) → one ≡ other → (on_true on_false : Expr) (m n : ℕ) → on_true ≡ (entry_at leaves m).term → on_false ≡ (entry_at leaves n).term →
        (if one then on_true else on_false) ≡ (entry_at leaves (if other then m else n)).term
    both_sides true true same on_true on_false m n first second = first
    both_sides false false same on_true on_false m n first second = second
    both_sides true false same on_true on_false m n first second = absurd (true≢false same)
    both_sides false true same on_true on_false m n first second = absurd (true≢false (sym same))

-- a row that holds somewhere is one of the rows
row_within : (rows : List (List Bool)) (row x : ℕ) → holds_at rows row x ≡ true → row < length rows
row_within [] row x holds = absurd (true≢false (sym holds))
row_within (first ∷ rows) zero x holds = omega arith
row_within (first ∷ rows) (suc row) x holds = let less = row_within rows row x holds in omega (arith, less)

-- so a tree that serves all points is good at each
pub served_is_good : (question : Question) (assignments points : List (List Val)) (leaves conditions : List Entry) (goods : List (List Bool)) (tree : Choice) →
    IsPointwise question → All (AreValues question.variables) assignments → AreGoods question assignments points leaves goods → EntriesHaveRows (functions question.definitions) points conditions →
    ServesPoints goods (truths conditions) (λ x. x < length points) tree → (x : ℕ) (tuple : List Val) → slice_get points x ≡ Some tuple → IsGoodAt question assignments tuple (yield (conditional_of leaves conditions tree))
served_is_good question assignments points leaves conditions goods tree pointwise are good rows serves x tuple at =
    let defined = functions question.definitions in
    let leaf = unify.reached (truths conditions) x tree in
    let holds = serves.good x (slice_get_within points x tuple at) in
    let many = good.many in
    let within = row_within goods leaf x holds in
    let there = slice_get-get_or leaves leaf nothing_kept (omega (arith, many, within)) in
    tree_is_good question assignments pointwise are tuple (conditional_of leaves conditions tree)
    (subst (IsGoodAt question assignments tuple) (sym (choice_reaches defined points x tuple at leaves conditions rows tree)) (good.good leaf x (entry_at leaves leaf) tuple there at holds))

-- a tree over kept terms that serves some points is one over parts
module _ (syntax : Syntax) (defined : List Function) (pool : List Val) (bank : Merged) (honest : IsHonestBank syntax defined pool bank) (condition n : ℕ) (goods : List (List Bool)) (many : length goods ≡ length (kept_below bank.levels 0 (n + 1))) where
  pub parts_within : (P : ℕ → Type 0) (x : ℕ) → P x → (tree : Choice) →
      ((y : ℕ) → P y → holds_at goods (unify.reached (truths (kept_below bank.levels condition (n + 1))) y tree) y ≡ true) → EachTestSplits (truths (kept_below bank.levels condition (n + 1))) P tree →
      ArePartsWithin syntax pool condition n (conditional_of (kept_below bank.levels 0 (n + 1)) (kept_below bank.levels condition (n + 1)) tree)
  parts_within P x here (Leaf leaf) good splits =
      let less = row_within goods leaf x (good x here) in
      kept_is_part syntax defined pool bank honest 0 n leaf (entry_at (kept_below bank.levels 0 (n + 1)) leaf) (slice_get-get_or (kept_below bank.levels 0 (n + 1)) leaf nothing_kept (omega (arith, less, many)))
  parts_within P x here (Test' test p there q other) good splits =
      let conditions = kept_below bank.levels condition (n + 1) in
      let rows = truths conditions in
      let less = row_within rows test splits.0.0 splits.0.2 in
      let long = length-map conditions (λ (entry : Entry). map truth entry.row) in (
        kept_is_part syntax defined pool bank honest condition n test (entry_at conditions test) (slice_get-get_or conditions test nothing_kept (omega (arith, less, long))),
        parts_within (λ y. P y × (holds_at rows test y ≡ true)) splits.0.0 (splits.0.1, splits.0.2) there
            (λ y is. subst (λ (b : Bool). holds_at goods (if b then unify.reached rows y there else unify.reached rows y other) y ≡ true) is.1 (good y is.0)) splits.2,
        parts_within (λ y. P y × (holds_at rows test y ≡ false)) splits.1.0 (splits.1.1, splits.1.2) other
            (λ y is. subst (λ (b : Bool). holds_at goods (if b then unify.reached rows y there else unify.reached rows y other) y ≡ true) is.1 (good y is.0)) splits.3,
      )

-- and has as many leaves as the choice
pub as_many_leaves : (leaves conditions : List Entry) (tree : Choice) → leaves_of (conditional_of leaves conditions tree) ≡ leaf_count tree
as_many_leaves leaves conditions (Leaf leaf) = refl
as_many_leaves leaves conditions (Test' test p there q here) = λ i. as_many_leaves leaves conditions there i + as_many_leaves leaves conditions here i
