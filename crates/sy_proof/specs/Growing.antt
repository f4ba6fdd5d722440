-- Trees made of nodes in preorder, from the last node on.
use Rattle.std.specs.Prelude.{List, [], ◌∷◌, map, reverse, Option, Some, None}
use Rattle.sy_linear_known.specs.Stored.{tree_shape_of}
use Rattle.sy_linear_known.specs.Trees as shape
use Rattle.sy_linear_known.specs.Trees.{TreeShape}
use Rattle.sy_linear_known.specs.declared.tree.Tree.{Tree}
use Rattle.sy_proof.specs.declared.nodes.Node.{Node}
use Rattle.sy_proof.specs.declared.nodes.Node.TheVariants.{Split, Branch, Cut, Farkas, Shown, Unfinished}

-- trees, the one that was made last first
abbrev pub stacked : List Tree → List TreeShape
stacked trees = reverse (map tree_shape_of trees)

-- the trees after a node that stands before them; None where they are too few for it
abbrev pub grown : Node → List TreeShape → Option (List TreeShape)
grown (Split test) (left ∷ right ∷ rest) = Some (shape.Split test left right ∷ rest)
grown (Split test) (left ∷ []) = None
grown (Split test) [] = None
grown (Branch variable bound) (left ∷ right ∷ rest) = Some (shape.Branch variable bound left right ∷ rest)
grown (Branch variable bound) (left ∷ []) = None
grown (Branch variable bound) [] = None
grown (Cut divisor multipliers) (inner ∷ rest) = Some (shape.Cut multipliers divisor inner ∷ rest)
grown (Cut divisor multipliers) [] = None
grown (Farkas multipliers) rest = Some (shape.Farkas multipliers ∷ rest)
grown Shown rest = Some (shape.Shown ∷ rest)
grown Unfinished rest = Some (shape.Unfinished ∷ rest)
