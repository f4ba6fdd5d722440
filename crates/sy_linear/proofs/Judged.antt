-- A tree's judgement by what comes of its root.
use Rattle.std.specs.Prelude.{◌≡◌, ℕ, ◌+◌, ◌<◌, Bool, true, false, List, [], ◌∷◌, ◌++◌, ℤ, Result, Ok, Err}
use Rattle.std.proofs.Common.{refl, sym, ◌∙◌, ap, ap₂, subst, arith}
use Rattle.std.specs.declared.boxed.Box.{Box}
use Rattle.std.specs.declared.alloc.Global.{Global}
use Rattle.sy_frac.specs.Fraction.{Fraction}
use Rattle.sy_terms.specs.declared.sort.Sort.{Sort}
use Rattle.sy_linear_known.specs.declared.path.Fact.{Fact}
use Rattle.sy_linear_known.specs.declared.path.Test.{Test}
use Rattle.sy_linear_known.specs.declared.tree.CheckEnd.{CheckEnd}
use Rattle.sy_linear_known.specs.declared.tree.CheckEnd.TheVariants.{Range, Want}
use Rattle.sy_linear_known.specs.declared.tree.Tree.{Tree}
use Rattle.sy_linear_known.specs.declared.tree.Tree as trees
use Rattle.sy_linear_known.specs.Seen.{LinearQuery, query_known}
use Rattle.sy_linear_known.specs.Stored.{tree_shape_of}
use Rattle.sy_linear_known.specs.Trees.{TreeShape, Split, Branch, Cut, Farkas, Shown, Unfinished}
use Rattle.sy_linear.specs.Judging.{Judgement, Broken, Unfit, TellsJudgement, NodeOutcome, Adds, Fails, Leaves, EntersAt, entered_side, judged_in_turn, after_node, size, one_of, path_with, split_outcome, branch_outcome, cut_outcome, contradiction_judged, shown_judged, judged, side_judged, both_judged}

-- ---- shapes
pub split_shape : (tree : Tree) (test : Test) (points : List Fraction) (left right : Box Tree Global) → tree ≡ trees.Split test points left right → tree_shape_of tree ≡ Split test (tree_shape_of left.value) (tree_shape_of right.value)
split_shape tree test points left right is = ap tree_shape_of is

pub branch_shape : (tree : Tree) (variable : ℕ) (bound : ℤ) (points : List Fraction) (left right : Box Tree Global) → tree ≡ trees.Branch variable bound points left right → tree_shape_of tree ≡ Branch variable bound (tree_shape_of left.value) (tree_shape_of right.value)
branch_shape tree variable bound points left right is = ap tree_shape_of is

pub cut_shape : (tree : Tree) (multipliers : List Fraction) (divisor : ℤ) (points : List Fraction) (inner : Box Tree Global) → tree ≡ trees.Cut multipliers divisor points inner → tree_shape_of tree ≡ Cut multipliers divisor (tree_shape_of inner.value)
cut_shape tree multipliers divisor points inner is = ap tree_shape_of is

pub farkas_shape : (tree : Tree) (multipliers : List Fraction) → tree ≡ trees.Farkas multipliers → tree_shape_of tree ≡ Farkas multipliers
farkas_shape tree multipliers is = ap tree_shape_of is

pub shown_shape : (tree : Tree) → tree ≡ trees.Shown → tree_shape_of tree ≡ Shown
shown_shape tree is = ap tree_shape_of is

pub unfinished_shape : (tree : Tree) → tree ≡ trees.Unfinished → tree_shape_of tree ≡ Unfinished
unfinished_shape tree is = ap tree_shape_of is

-- ---- sizes
pub positive : (t : TreeShape) → 0 < size t
unfolding size
positive (Split test left right) = omega arith
positive (Branch variable bound left right) = omega arith
positive (Cut multipliers divisor inner) = omega arith
positive (Farkas multipliers) = omega arith
positive Shown = omega arith
positive Unfinished = omega arith

pub split_size : (tree : Tree) (test : Test) (points : List Fraction) (left right : Box Tree Global) (l r : Tree) → tree ≡ trees.Split test points left right → l ≡ left.value → r ≡ right.value → size (tree_shape_of tree) ≡ size (tree_shape_of l) + size (tree_shape_of r) + 1
unfolding size
split_size tree test points left right l r is e f =
    omega (arith, ap size (split_shape tree test points left right is), ap (λ t. size (tree_shape_of t)) e, ap (λ t. size (tree_shape_of t)) f)

pub branch_size : (tree : Tree) (variable : ℕ) (bound : ℤ) (points : List Fraction) (left right : Box Tree Global) (l r : Tree) → tree ≡ trees.Branch variable bound points left right → l ≡ left.value → r ≡ right.value → size (tree_shape_of tree) ≡ size (tree_shape_of l) + size (tree_shape_of r) + 1
unfolding size
branch_size tree variable bound points left right l r is e f =
    omega (arith, ap size (branch_shape tree variable bound points left right is), ap (λ t. size (tree_shape_of t)) e, ap (λ t. size (tree_shape_of t)) f)

pub cut_size : (tree : Tree) (multipliers : List Fraction) (divisor : ℤ) (points : List Fraction) (inner : Box Tree Global) (i : Tree) → tree ≡ trees.Cut multipliers divisor points inner → i ≡ inner.value → size (tree_shape_of tree) ≡ size (tree_shape_of i) + 1
unfolding size
cut_size tree multipliers divisor points inner i is e =
    omega (arith, ap size (cut_shape tree multipliers divisor points inner is), ap (λ t. size (tree_shape_of t)) e)

pub farkas_size : (tree : Tree) (multipliers : List Fraction) → tree ≡ trees.Farkas multipliers → size (tree_shape_of tree) ≡ 1
unfolding size
farkas_size tree multipliers is = ap size (farkas_shape tree multipliers is)

pub shown_size : (tree : Tree) → tree ≡ trees.Shown → size (tree_shape_of tree) ≡ 1
unfolding size
shown_size tree is = ap size (shown_shape tree is)

pub unfinished_size : (tree : Tree) → tree ≡ trees.Unfinished → size (tree_shape_of tree) ≡ 1
unfolding size
unfinished_size tree is = ap size (unfinished_shape tree is)

-- ---- judgements
-- both sides of a node, and the one of a cut
in_turn : (n : ℕ) (path : List Fact) (outcome : NodeOutcome (Fact × Fact)) (left right : List Fact → Judgement) →
    after_node n outcome (λ facts. judged_in_turn (left (path ++ facts.0 ∷ [])) (right (path ++ facts.1 ∷ []))) ≡
    judged_in_turn (after_node n (path_with path (one_of true outcome)) left)
    (after_node n (path_with path (one_of false outcome)) right)
in_turn n path (Adds facts) left right = refl
in_turn n path Fails left right = refl
in_turn n path Leaves left right = refl

alone : (n : ℕ) (path : List Fact) (outcome : NodeOutcome Fact) (inner : List Fact → Judgement) →
    after_node n outcome (λ fact. inner (path ++ fact ∷ [])) ≡ after_node n (path_with path outcome) inner
alone n path (Adds fact) inner = refl
alone n path Fails inner = refl
alone n path Leaves inner = refl

pub split_judged : (q : LinearQuery) (path : List Fact) (n : ℕ) (tree : Tree) (test : Test) (points : List Fraction) (left right : Box Tree Global) (l r : Tree) →
    tree ≡ trees.Split test points left right → l ≡ left.value → r ≡ right.value →
    judged q path n (tree_shape_of tree) ≡ both_judged q path n (tree_shape_of tree) (n + 1) (tree_shape_of l) (tree_shape_of r)
unfolding judged side_judged
split_judged q path n tree test points left right l r is e f =
    let shape = split_shape tree test points left right is in
    ap (judged q path n) shape
    ∙ in_turn n path (split_outcome q.vars test) (λ facts. judged q facts (n + 1) (tree_shape_of left.value)) (λ facts. judged q facts (n + 1 + size (tree_shape_of left.value)) (tree_shape_of right.value))
    ∙ ap (λ t. both_judged q path n t (n + 1) (tree_shape_of left.value) (tree_shape_of right.value)) (sym shape)
    ∙ ap₂ (λ s t. both_judged q path n (tree_shape_of tree) (n + 1) (tree_shape_of s) (tree_shape_of t)) (sym e) (sym f)

pub branch_judged : (q : LinearQuery) (path : List Fact) (n : ℕ) (tree : Tree) (variable : ℕ) (bound : ℤ) (points : List Fraction) (left right : Box Tree Global) (l r : Tree) →
    tree ≡ trees.Branch variable bound points left right → l ≡ left.value → r ≡ right.value →
    judged q path n (tree_shape_of tree) ≡ both_judged q path n (tree_shape_of tree) (n + 1) (tree_shape_of l) (tree_shape_of r)
unfolding judged side_judged
branch_judged q path n tree variable bound points left right l r is e f =
    let shape = branch_shape tree variable bound points left right is in
    ap (judged q path n) shape
    ∙ in_turn n path (branch_outcome q.vars variable bound) (λ facts. judged q facts (n + 1) (tree_shape_of left.value)) (λ facts. judged q facts (n + 1 + size (tree_shape_of left.value)) (tree_shape_of right.value))
    ∙ ap (λ t. both_judged q path n t (n + 1) (tree_shape_of left.value) (tree_shape_of right.value)) (sym shape)
    ∙ ap₂ (λ s t. both_judged q path n (tree_shape_of tree) (n + 1) (tree_shape_of s) (tree_shape_of t)) (sym e) (sym f)

pub cut_judged : (q : LinearQuery) (path : List Fact) (n : ℕ) (tree : Tree) (multipliers : List Fraction) (divisor : ℤ) (points : List Fraction) (inner : Box Tree Global) (i : Tree) →
    tree ≡ trees.Cut multipliers divisor points inner → i ≡ inner.value →
    judged q path n (tree_shape_of tree) ≡ side_judged q path n true (tree_shape_of tree) (n + 1) (tree_shape_of i)
unfolding judged side_judged
cut_judged q path n tree multipliers divisor points inner i is e =
    let shape = cut_shape tree multipliers divisor points inner is in
    ap (judged q path n) shape
    ∙ alone n path (cut_outcome path multipliers divisor) (λ facts. judged q facts (n + 1) (tree_shape_of inner.value))
    ∙ ap (λ t. side_judged q path n true t (n + 1) (tree_shape_of inner.value)) (sym shape)
    ∙ ap (λ t. side_judged q path n true (tree_shape_of tree) (n + 1) (tree_shape_of t)) (sym e)

pub farkas_judged : (q : LinearQuery) (path facts : List Fact) (n : ℕ) (tree : Tree) (multipliers ms : List Fraction) → tree ≡ trees.Farkas multipliers → facts ≡ path → ms ≡ multipliers → judged q path n (tree_shape_of tree) ≡ contradiction_judged facts n ms
unfolding judged
farkas_judged q path facts n tree multipliers ms is same like =
    ap (judged q path n) (farkas_shape tree multipliers is) ∙ ap₂ (λ p m. contradiction_judged p n m) (sym same) (sym like)

pub shown-is_judged : (q : LinearQuery) (path facts : List Fact) (n : ℕ) (tree : Tree) → tree ≡ trees.Shown → facts ≡ path → judged q path n (tree_shape_of tree) ≡ shown_judged n (query_known q facts)
unfolding judged
shown-is_judged q path facts n tree is same =
    ap (judged q path n) (shown_shape tree is) ∙ ap (λ p. shown_judged n (query_known q p)) (sym same)

pub unfinished_judged : (q : LinearQuery) (path : List Fact) (n : ℕ) (tree : Tree) → tree ≡ trees.Unfinished → judged q path n (tree_shape_of tree) ≡ Broken
unfolding judged
unfinished_judged q path n tree is = ap (judged q path n) (unfinished_shape tree is)

-- ---- answers
pub tells : (r : Result Bool CheckEnd) (j k : Judgement) → TellsJudgement r j → k ≡ j → TellsJudgement r k
tells r j k h e = subst (λ i. TellsJudgement r i) (sym e) h

-- what a node adds, and that it fails
pub enters : (n : ℕ) (answer : Bool) (facts : List Fact) (outcome : NodeOutcome (List Fact)) → answer ≡ true →
    EntersAt n (Ok answer) facts outcome → outcome ≡ Adds facts
enters n answer facts outcome is h = subst (λ b. EntersAt n (Ok b) facts outcome) is h

pub fails : (n : ℕ) (answer : Bool) (facts : List Fact) (outcome : NodeOutcome (List Fact)) → answer ≡ false →
    EntersAt n (Ok answer) facts outcome → outcome ≡ Fails
fails n answer facts outcome is h = subst (λ b. EntersAt n (Ok b) facts outcome) is h

-- of a side that is entered
pub tells-entered : (q : LinearQuery) (vars : List Sort) (path facts : List Fact) (n m : ℕ) (on_left : Bool)
    (above tree : TreeShape) (r : Result Bool CheckEnd) → vars ≡ q.vars →
    entered_side vars path on_left above ≡ Adds facts → TellsJudgement r (judged q facts m tree) →
    TellsJudgement r (side_judged q path n on_left above m tree)
unfolding side_judged
tells-entered q vars path facts n m on_left above tree r same e h =
    tells r (judged q facts m tree) (side_judged q path n on_left above m tree) h
    (ap (λ o. after_node n o (λ p. judged q p m tree)) (ap (λ vs. entered_side vs path on_left above) (sym same) ∙ e))

-- of one that isn't
pub tells-broken : (q : LinearQuery) (vars : List Sort) (path : List Fact) (n m : ℕ) (on_left : Bool)
    (above tree : TreeShape) → vars ≡ q.vars → entered_side vars path on_left above ≡ Fails →
    side_judged q path n on_left above m tree ≡ Broken
unfolding side_judged
tells-broken q vars path n m on_left above tree same e =
    ap (λ o. after_node n o (λ p. judged q p m tree)) (ap (λ vs. entered_side vs path on_left above) (sym same) ∙ e)

pub tells-end : (q : LinearQuery) (vars : List Sort) (path facts : List Fact) (n m : ℕ) (on_left : Bool)
    (above tree : TreeShape) (end : CheckEnd) → vars ≡ q.vars →
    EntersAt n (Err end) facts (entered_side vars path on_left above) →
    TellsJudgement (Err end) (side_judged q path n on_left above m tree)
unfolding side_judged
tells-end q vars path facts n m on_left above tree (Range k) same h =
    ap (λ o. after_node n o (λ p. judged q p m tree))
    (ap (λ vs. entered_side vs path on_left above) (sym same) ∙ h.1) ∙ ap Unfit (sym h.0)
tells-end q vars path facts n m on_left above tree Want same h = tt
