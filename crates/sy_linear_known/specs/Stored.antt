-- Queries and trees apart from memory.
use Rattle.std.specs.Prelude.{ℤ}
use Rattle.sy_terms.specs.Values.{Whole}
use Rattle.sy_terms.specs.Denoted.{expr_of}
use Rattle.sy_query_base.specs.declared.query.Query.{Query}
use Rattle.sy_linear_known.specs.declared.tree.Tree.{Tree, Split', Branch', Cut', Farkas, Shown, Unfinished}
use Rattle.sy_linear_known.specs.Seen as asked
use Rattle.sy_linear_known.specs.Trees as shape

-- the query that is asked
abbrev pub linear_query_of : {T : Type 0} → Query T ℤ → asked.LinearQuery
linear_query_of q = record { vars = q.vars; body = expr_of Whole q.body }

-- the tree without its points
abbrev pub tree_shape_of : Tree → shape.TreeShape
tree_shape_of (Split' test points p left q right) = shape.Split test (tree_shape_of left) (tree_shape_of right)
tree_shape_of (Branch' variable bound points p left q right) = shape.Branch variable bound (tree_shape_of left) (tree_shape_of right)
tree_shape_of (Cut' multipliers divisor points p inner) = shape.Cut multipliers divisor (tree_shape_of inner)
tree_shape_of (Farkas multipliers) = shape.Farkas multipliers
tree_shape_of Shown = shape.Shown
tree_shape_of Unfinished = shape.Unfinished
