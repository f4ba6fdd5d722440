use Rattle.std.specs.Prelude.{ℕ, ◌+◌, max}
use Rattle.sy_terms.specs.Values.{Val}
use Rattle.sy_terms.specs.declared.op.Op.{Op}
use Rattle.sy_terms.specs.declared.term.Fun.{Fun}

-- a term, without where it lies in memory. A variable is a position of the list of values in force,
-- which is longer by a binding's values in the binding's inner term.
mutual
  pub data Expr : Type 0 where
    Constant : (value : Val) → Expr
    Variable : (position : ℕ) → Expr
    Apply : (operator : Op) → (arguments : Exprs) → Expr
    Invoke : (function : Fun) → (arguments : Exprs) → Expr
    Bind : (bound : Exprs) → (inner : Expr) → Expr

  pub data Exprs : Type 0 where
    none : Exprs
    more : (first : Expr) → (rest : Exprs) → Exprs

-- one list after the other
abbrev pub append : Exprs → Exprs → Exprs
append none second = second
append (more first rest) second = more first (append rest second)

abbrev mutual
  -- how many nodes a term has
  pub nodes : Expr → ℕ
  nodes (Constant value) = 1
  nodes (Variable position) = 1
  nodes (Apply operator arguments) = nodes_of arguments + 1
  nodes (Invoke function arguments) = nodes_of arguments + 1
  nodes (Bind bound inner) = nodes_of bound + nodes inner + 1

  pub nodes_of : Exprs → ℕ
  nodes_of none = 0
  nodes_of (more first rest) = nodes first + nodes_of rest

abbrev mutual
  -- how many nodes stand on the longest way down
  pub depth : Expr → ℕ
  depth (Constant value) = 1
  depth (Variable position) = 1
  depth (Apply operator arguments) = depth_of arguments + 1
  depth (Invoke function arguments) = depth_of arguments + 1
  depth (Bind bound inner) = max (depth_of bound) (depth inner) + 1

  pub depth_of : Exprs → ℕ
  depth_of none = 0
  depth_of (more first rest) = max (depth first) (depth_of rest)
