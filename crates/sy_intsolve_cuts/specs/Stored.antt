-- Trees and ways apart from memory.
use Rattle.std.specs.Prelude.{List, map, Option, Some, None}
use Rattle.sy_linear_known.specs.declared.tree.Tree.{Tree, Split', Branch', Cut', Farkas, Shown, Unfinished}
use Rattle.sy_intsolve_cuts.specs.declared.fork.Fork.TheVariants as forks
use Rattle.sy_intsolve_cuts.specs.declared.step.Step.{Step}
use Rattle.sy_intsolve_cuts.specs.declared.step.Step.TheVariants as steps
use Rattle.sy_intsolve_cuts.specs.Growing as grown
use Rattle.sy_intsolve_cuts.specs.Steps as layer

abbrev pub grown_tree_of : Tree → grown.GrownTree
grown_tree_of (Split' test points p left q right) = grown.Forked (forks.Split test) points (grown_tree_of left) (grown_tree_of right)
grown_tree_of (Branch' variable bound points p left q right) = grown.Forked (forks.Branch variable bound) points (grown_tree_of left) (grown_tree_of right)
grown_tree_of (Cut' multipliers divisor points p inner) = grown.Cut multipliers divisor points (grown_tree_of inner)
grown_tree_of (Farkas multipliers) = grown.Farkas multipliers
grown_tree_of Shown = grown.Shown
grown_tree_of Unfinished = grown.Unfinished

-- a side that isn't there isn't begun
abbrev pub side_of : Option Tree → grown.GrownTree
side_of (Some tree) = grown_tree_of tree
side_of None = grown.Unfinished

abbrev pub layer_of : Step → layer.Layer
layer_of (steps.Left fork point right) = layer.Left fork point (grown_tree_of right)
layer_of (steps.Right fork point left) = layer.Right fork point (grown_tree_of left)
layer_of (steps.Under multipliers divisor point) = layer.Under multipliers divisor point

-- the root's step first
abbrev pub layers_of : List Step → List layer.Layer
layers_of steps = map layer_of steps
