-- Which trees are accepted as proofs that no assignment satisfies a query.
use Rattle.std.specs.Prelude.{[], true, ◌≡◌}
use Rattle.sy_query_base.specs.Asked as asked
use Rattle.sy_lower_laws.specs.Lowering.{lowering}
use Rattle.sy_lower_laws.specs.Laws.{has_integers}
use Rattle.sy_linear_known.specs.declared.tree.Tree.{Tree}
use Rattle.sy_linear_known.specs.Seen.{LinearQuery}
use Rattle.sy_linear_known.specs.Stored.{tree_shape_of}
use Rattle.sy_linear_known.specs.Trees.{TreeRefutes}

-- the query as one of linear arithmetic
abbrev pub linear_query : asked.Query → LinearQuery
linear_query query = record { vars = query.variables; body = query.body }

-- the query of linear arithmetic that a query is lowered to: it has no division, remainder or absolute value
abbrev pub linear_of : asked.Query → LinearQuery
linear_of query = linear_query (lowering query)

-- the query's constants are truth values and whole numbers, and the tree refutes the lowered query under the empty path
pub record Accepted (query : asked.Query) (tree : Tree) : Type 0 where
  pub integers : has_integers query.body ≡ true
  pub refutes : TreeRefutes (linear_of query) [] (tree_shape_of tree)
