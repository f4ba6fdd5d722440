-- Points of one class at none of which a kept leaf is good alone: every conditional tree is bad at one of them.
use Rattle.std.specs.Prelude.{ℕ, zero, suc, ◌+◌, ◌<◌, ◌≤◌, ◌≡◌, Bool, true, false, List, [], ◌∷◌, take, length, get_or, slice_get, Option, Some, None, All, Contains, refl, if◌then◌else◌}
use Rattle.std.proofs.Common.{arith, ap, sym, ◌∙◌}
use Rattle.std.proofs.lemmas.Bool.{true≢false}
use Rattle.std.proofs.lemmas.Option.{slice_get-get_or}
use Rattle.std.proofs.lemmas.List.Elements.{All-contains}
use Rattle.sy_terms.specs.Values.{Val, truth}
use Rattle.sy_terms.specs.Expr.{Expr}
use Rattle.sy_terms.specs.Meaning.{Function, functions, meaning}
use Rattle.sy_grammar_base.specs.Patterns as patterns
use Rattle.sy_grammar_base.specs.Patterns.{Pattern}
use Rattle.sy_grammar_base.specs.Trees.{Syntax, Tree, IsFirst, is_choice, start_rules, template_at}
use Rattle.sy_grammar_base.specs.Questions.{Question}
use Rattle.sy_grammar_base.specs.Solving.{AreValues}
use Rattle.sy_unify.specs.Rows.{holds_at, IsAlike}
use Rattle.sy_unify.specs.Unify.{IsUncovered}
use Rattle.sy_bank_level.specs.Banks.{Merged, IsHonestBank}
use Rattle.sy_bank_level.specs.Covering.{Covers}
use Rattle.sy_loop_spec.specs.Pointwise.{IsPointwise}
use Rattle.sy_loop_spec.specs.Resting.{IsBadAt}
use Rattle.sy_loop_spec.specs.Conditional.{Conditional, Leaf, Test, yield, leaf_reached, IsPart, ArePartsWithin, IsTreeRule}
use Rattle.sy_loop_spec.proofs.Goodness.{bad_alike, tree_is_bad}
use Rattle.sy_loop_spec.specs.Goods.{AreGoods}
use Rattle.sy_loop_spec.specs.Trees.{kept_below, truths}
use Rattle.sy_loop_spec.proofs.Kept.{twin, twin_means, twin_says}

-- only one place is the first
first_place : {X : Type 0} (accepts : X → Bool) (items : List X) (one other : ℕ) → IsFirst accepts items one → IsFirst accepts items other → one < other → ⊥
first_place accepts items one other first second less =
    true≢false (sym first.accepted ∙ All-contains (λ item. accepts item ≡ false) (take other items) first.item second.before (among items one other first.item less first.at))
  where
    among : {X : Type 0} (xs : List X) (earlier later : ℕ) (x : X) → earlier < later → slice_get xs earlier ≡ Some x → Contains (take later xs) x
    among [] earlier later x less at = absurd (cc)
    among (y ∷ xs) earlier zero x less at = absurd (omega (arith, less))
    among (y ∷ xs) zero (suc later) x less at = let same : y ≡ x = cc in (0, omega arith, same)
    among (y ∷ xs) (suc earlier) (suc later) x less at = let below = among xs earlier later x (omega (arith, less)) at in let within = below.1 in (suc below.0, omega (arith, within), below.2)

same_place : {X : Type 0} (accepts : X → Bool) (items : List X) (one other : ℕ) → IsFirst accepts items one → IsFirst accepts items other → one ≡ other
same_place accepts items one other first second =
    only one other (first_place accepts items one other first second) (first_place accepts items other one second first)
  where
    only : (m n : ℕ) → (m < n → ⊥) → (n < m → ⊥) → m ≡ n
    only zero zero above below = refl
    only zero (suc n) above below = absurd (above (omega arith))
    only (suc m) zero above below = absurd (below (omega arith))
    only (suc m) (suc n) above below = ap suc (only m n (λ less. above (omega (arith, less))) (λ less. below (omega (arith, less))))

-- so a grammar has one nonterminal for the conditions of its trees
abbrev tested_by : Pattern → ℕ
tested_by (patterns.Constant value) = 0
tested_by (patterns.Variable position) = 0
tested_by (patterns.Occurrence nonterminal) = nonterminal
tested_by (patterns.Apply operator patterns.none) = 0
tested_by (patterns.Apply operator (patterns.more first rest)) = tested_by first
tested_by (patterns.Invoke function arguments) = 0

abbrev tested_in : Option Pattern → ℕ
tested_in None = 0
tested_in (Some pattern) = tested_by pattern

pub one_condition : (syntax : Syntax) (rule other condition others : ℕ) → IsTreeRule syntax rule condition → IsTreeRule syntax other others → condition ≡ others
one_condition syntax rule other condition others first second =
    let same = same_place is_choice (start_rules syntax.nonterminals) rule other first.first second.first in
    ap tested_in (sym first.is ∙ ap (template_at syntax 0) same ∙ second.is)

-- one leaf of the tree is reached at each point of the class
record IsOneLeaf (syntax : Syntax) (defined : List Function) (pool : List Val) (points : List (List Val)) (n : ℕ) (class : List ℕ) (parts : Conditional) : Type 0 where
  pub tree : Tree
  pub term : Expr
  pub part : IsPart syntax pool 0 n tree term
  pub reaches : (x : ℕ) (point : List Val) → Contains class x → slice_get points x ≡ Some point → leaf_reached defined point parts ≡ term

-- a condition that is alike at all of them chooses one side
one_side : (syntax : Syntax) (defined : List Function) (pool : List Val) (points : List (List Val)) (n : ℕ) (class : List ℕ) (tree : Tree) (term : Expr) (there here : Conditional) (side : Bool) →
    ((x : ℕ) (point : List Val) → Contains class x → slice_get points x ≡ Some point → truth (meaning defined [] point term) ≡ side) →
    IsOneLeaf syntax defined pool points n class there → IsOneLeaf syntax defined pool points n class here → IsOneLeaf syntax defined pool points n class (Test tree term there here)
one_side syntax defined pool points n class tree term there here true takes on_true on_false = record {
  tree = on_true.tree;
  term = on_true.term;
  part = on_true.part;
  reaches = λ x point of at. ap (λ (b : Bool). if b then leaf_reached defined point there else leaf_reached defined point here) (takes x point of at) ∙ on_true.reaches x point of at;
}
one_side syntax defined pool points n class tree term there here false takes on_true on_false = record {
  tree = on_false.tree;
  term = on_false.term;
  part = on_false.part;
  reaches = λ x point of at. ap (λ (b : Bool). if b then leaf_reached defined point there else leaf_reached defined point here) (takes x point of at) ∙ on_false.reaches x point of at;
}

module _ (syntax : Syntax) (defined : List Function) (pool : List Val) (bank : Merged) (condition n : ℕ) (up : n ≤ bank.upto) (honest : IsHonestBank syntax defined pool bank) (covers : Covers syntax defined pool bank) where
  -- where all conditions treat the class alike, so do all conditional trees
  one_leaf : (class : List ℕ) (first : ℕ) → Contains class first → ((x y : ℕ) → Contains class x → Contains class y → IsAlike (truths (kept_below bank.levels condition (n + 1))) x y) →
      (parts : Conditional) → ArePartsWithin syntax pool condition n parts → IsOneLeaf syntax defined pool bank.points n class parts
  one_leaf class first some alike (Leaf tree term) within = record { tree = tree; term = term; part = within; reaches = λ x point of at. refl }
  one_leaf class first some alike (Test tree term there here) within =
      let is = twin syntax defined pool bank n up honest covers condition tree term within.0 in
      one_side syntax defined pool bank.points n class tree term there here (holds_at (truths (kept_below bank.levels condition (n + 1))) is.place first)
      (λ x point of at. twin_says defined bank.points bank.levels condition n term is x point at ∙ alike x first of some is.place)
      (one_leaf class first some alike there within.1) (one_leaf class first some alike here within.2)

-- a tree of parts within n is bad at one of the points
pub record IsBadSomewhere (question : Question) (assignments : List (List Val)) (parts : Conditional) : Type 0 where
  pub tuple : List Val
  pub bad : IsBadAt question assignments tuple (yield parts)

pub uncovered_is_bad : (question : Question) (assignments : List (List Val)) (syntax : Syntax) (bank : Merged) (condition n : ℕ) (goods : List (List Bool)) (class : List ℕ) (parts : Conditional) →
    IsPointwise question → All (AreValues question.variables) assignments → n ≤ bank.upto →
    IsHonestBank syntax (functions question.definitions) question.pool bank → Covers syntax (functions question.definitions) question.pool bank →
    AreGoods question assignments bank.points (kept_below bank.levels 0 (n + 1)) goods →
    IsUncovered goods (truths (kept_below bank.levels condition (n + 1))) (λ x. x < length bank.points) class →
    ArePartsWithin syntax question.pool condition n parts → IsBadSomewhere question assignments parts
uncovered_is_bad question assignments syntax bank condition n goods class parts pointwise are up honest covers good uncovered within =
    let defined = functions question.definitions in
    let some = uncovered.some in
    let first = one_of class some in
    let one = one_leaf syntax defined question.pool bank condition n up honest covers class first.0 first.1 uncovered.alike parts within in
    let is = twin syntax defined question.pool bank n up honest covers 0 one.tree one.term one.part in
    let worst = uncovered.no_leaf is.place in
    let tuple = get_or bank.points worst.0 [] in
    let at = slice_get-get_or bank.points worst.0 [] (uncovered.within worst.0 worst.1) in
    let bad = good.bad is.place worst.0 is.entry tuple is.at at worst.2 in
    let same = twin_means defined bank.points bank.levels 0 n one.term is worst.0 tuple at in
    let leaf = bad_alike question assignments pointwise are tuple is.entry.term (leaf_reached defined tuple parts) (same ∙ ap (meaning defined [] tuple) (sym (one.reaches worst.0 tuple worst.1 at))) bad in
    record { tuple = tuple; bad = tree_is_bad question assignments pointwise are tuple parts leaf }
  where
    one_of : (xs : List ℕ) → 0 < length xs → (x : ℕ) × Contains xs x
    one_of [] some = absurd (omega (arith, some))
    one_of (x ∷ xs) some = (x, (0, omega arith, refl))
