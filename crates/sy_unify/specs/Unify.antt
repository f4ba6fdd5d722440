-- What it means that a conditional tree serves a set of points, and that no tree can.
use Rattle.std.specs.Prelude.{ℕ, ◌+◌, ◌≡◌, ◌<◌, ◌≤◌, List, Bool, true, false, length, Contains, if◌then◌else◌, All, slice_index}
use Rattle.std.specs.List.Sorted.{IsStrictlyIncreasing}
use Rattle.sy_unify.specs.declared.choice.Choice.{Choice, Leaf, Test'}
use Rattle.sy_unify.specs.declared.choice.Joined.{Joined}
use Rattle.sy_unify.specs.declared.choice.Joined.TheVariants.{Tree, Uncovered}
use Rattle.sy_unify.specs.Rows.{holds_at, IsAlike}
use Rattle.sy_unify.specs.declared.join_tree.Step.{Step}
use Rattle.sy_unify.specs.declared.join_tree.Step.TheVariants.{Serve, Split, Stop}

-- the leaf that a tree reaches at a point
abbrev pub reached : List (List Bool) → ℕ → Choice → ℕ
reached conditions point (Leaf leaf) = leaf
reached conditions point (Test' test p there q here) =
    if holds_at conditions test point then reached conditions point there else reached conditions point here

-- both sides of each test are reached by some of these points
abbrev pub EachTestSplits : List (List Bool) → (ℕ → Type 0) → Choice → Type 0
EachTestSplits conditions P (Leaf leaf) = Unit {0}
EachTestSplits conditions P (Test' test p there q here) =
    ((x : ℕ) × P x × (holds_at conditions test x ≡ true)) × ((x : ℕ) × P x × (holds_at conditions test x ≡ false))
    × EachTestSplits conditions (λ x. P x × (holds_at conditions test x ≡ true)) there
    × EachTestSplits conditions (λ x. P x × (holds_at conditions test x ≡ false)) here

-- at each of these points the tree reaches a leaf that is good there, and both sides of each test are reached
pub record ServesPoints (goods conditions : List (List Bool)) (P : ℕ → Type 0) (tree : Choice) : Type 0 where
  pub good : (x : ℕ) → P x → holds_at goods (reached conditions x tree) x ≡ true
  pub splits : EachTestSplits conditions P tree

-- these are all those points of one class: every condition treats them alike, and no leaf is good at all of them
pub record IsUncovered (goods conditions : List (List Bool)) (P : ℕ → Type 0) (class : List ℕ) : Type 0 where
  pub some : 0 < length class
  pub within : (x : ℕ) → Contains class x → P x
  pub alike : (x y : ℕ) → Contains class x → Contains class y → IsAlike conditions x y
  pub whole : (x y : ℕ) → Contains class x → P y → IsAlike conditions x y → Contains class y
  pub no_leaf : (leaf : ℕ) → (x : ℕ) × Contains class x × (holds_at goods leaf x ≡ false)
  pub ordered : IsStrictlyIncreasing class

-- for each point some leaf is good at all the points that every condition treats alike
abbrev pub EachClassHasLeaf : List (List Bool) → List (List Bool) → (ℕ → Type 0) → Type 0
EachClassHasLeaf goods conditions P = (x : ℕ) → P x → (leaf : ℕ) × ((y : ℕ) → P y → IsAlike conditions x y → holds_at goods leaf y ≡ true)

-- a tree that serves these points, or a class of them that no tree can serve
abbrev pub IsJoin : List (List Bool) → List (List Bool) → (ℕ → Type 0) → Joined → Type 0
IsJoin goods conditions P (Tree tree) = ServesPoints goods conditions P tree × EachClassHasLeaf goods conditions P
IsJoin goods conditions P (Uncovered class) = IsUncovered goods conditions P class

-- how many leaves a tree has
abbrev pub leaf_count : Choice → ℕ
leaf_count (Leaf leaf) = 1
leaf_count (Test' test p there q here) = leaf_count there + leaf_count here

-- a tree has n leaves at most
abbrev pub LeavesWithin : ℕ → Joined → Type 0
LeavesWithin n (Tree tree) = leaf_count tree ≤ n
LeavesWithin n (Uncovered class) = Unit {0}

-- a leaf that is good at each of these points, a condition that splits them, or that there is neither
abbrev pub IsTreeStep : List (List Bool) → List (List Bool) → List ℕ → Step → Type 0
IsTreeStep goods conditions points (Serve leaf) = All (λ x. holds_at goods leaf x ≡ true) points
IsTreeStep goods conditions points (Split row) = ((x : ℕ) × Contains points x × (holds_at conditions row x ≡ true)) × ((x : ℕ) × Contains points x × (holds_at conditions row x ≡ false))
IsTreeStep goods conditions points Stop =
    ((leaf : ℕ) → (x : ℕ) × Contains points x × (holds_at goods leaf x ≡ false))
    × ((row : ℕ) → All (λ x. holds_at conditions row x ≡ holds_at conditions row (slice_index points 0)) points)
