-- Steps that each derive a term by a rule, from what earlier steps derive.
use Rattle.std.specs.Prelude.{ℕ, zero, suc, List, [], ◌∷◌, ◌++◌, ◌≡◌, ◌<◌, slice_get, Some}
use Rattle.sy_terms.specs.Values.{Val}
use Rattle.sy_terms.specs.Denoted.{val_of}
use Rattle.sy_grammar_base.specs.Trees as trees
use Rattle.sy_grammar_base.specs.Trees.{Tree, Trees}
use Rattle.sy_grammar.specs.declared.step.Step.{Step}
use Rattle.sy_grammar.specs.declared.step.Step.TheVariants.{Node, Constant, Variable}

-- the tree of this number
abbrev pub tree_at : List Tree → ℕ → Tree
tree_at [] number = trees.Node 0 trees.none
tree_at (tree ∷ rest) zero = tree
tree_at (tree ∷ rest) (suc number) = tree_at rest number

abbrev pub picked : List Tree → List ℕ → Trees
picked earlier [] = trees.none
picked earlier (step ∷ steps) = trees.more (tree_at earlier step) (picked earlier steps)

-- the tree that a step makes of earlier ones
abbrev pub tree_by : {T N : Type 0} → (N → Val) → List Tree → Step T N → Tree
tree_by number earlier (Node rule steps) = trees.Node rule (picked earlier steps.items)
tree_by number earlier (Constant rule value) = trees.ConstantLeaf rule (val_of number value)
tree_by number earlier (Variable rule position) = trees.VariableLeaf rule position

-- the trees of all steps, after earlier trees
unfoldable pub trees_after : {T N : Type 0} → (N → Val) → List Tree → List (Step T N) → List Tree
trees_after number earlier [] = earlier
trees_after number earlier (step ∷ steps) = trees_after number (earlier ++ tree_by number earlier step ∷ []) steps

abbrev pub step_trees : {T N : Type 0} → (N → Val) → List (Step T N) → List Tree
step_trees number steps = trees_after number [] steps

-- each number is below n
abbrev pub AreBelow : ℕ → List ℕ → Type 0
AreBelow n [] = Unit {0}
AreBelow n (number ∷ numbers) = (number < n) × AreBelow n numbers

-- the step takes only steps below this number
abbrev pub IsAfter : {T N : Type 0} → Step T N → ℕ → Type 0
IsAfter (Node rule steps) number = AreBelow number steps.items
IsAfter (Constant rule value) number = Unit {0}
IsAfter (Variable rule position) number = Unit {0}

-- each step takes only earlier ones
abbrev pub AreInOrder : {T N : Type 0} → List (Step T N) → Type 0
AreInOrder {T} {N} steps = (number : ℕ) → (step : Step T N) → slice_get steps number ≡ Some step → IsAfter step number
