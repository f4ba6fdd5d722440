-- The weight of a query: how many gates its circuit may have, up to a factor.
use Rattle.std.specs.Prelude.{ℕ, Bool, ◌+◌, ◌-◌, ◌*◌, List, [], ◌++◌, Option, Some, None}
use Rattle.sy_terms.specs.Expr.{Expr, Exprs, Constant, Variable, Apply, Invoke, Bind, none, more}
use Rattle.sy_terms.specs.Fitting.{Scope, sort_in, sorts_in}
use Rattle.sy_terms.specs.declared.op.Op.{Op}
use Rattle.sy_terms.specs.declared.op.Op.TheVariants as ops
use Rattle.sy_terms.specs.declared.sort.Sort.{Sort}
use Rattle.sy_terms.specs.declared.sort.Sort.TheVariants.{Bits}
use Rattle.sy_query_base.specs.Placed.{count}

-- a truth value and an integer weigh 1, a vector its width
abbrev pub sort_weight : Option Sort → ℕ
sort_weight (Some (Bits width)) = width
sort_weight _ = 1

-- what an application weighs by itself, by its number of arguments and the weight of its sort
abbrev pub operator_weight : Op → ℕ → ℕ → ℕ
operator_weight ops.BvUdiv arguments own = own * own
operator_weight ops.BvUrem arguments own = own * own
operator_weight ops.BvSdiv arguments own = own * own
operator_weight ops.BvSrem arguments own = own * own
operator_weight ops.BvSmod arguments own = own * own
operator_weight ops.BvShl arguments own = own * own
operator_weight ops.BvLshr arguments own = own * own
operator_weight ops.BvAshr arguments own = own * own
operator_weight ops.BvMul arguments own = (arguments - 1) * (own * own)
operator_weight ops.Distinct arguments own = arguments * arguments
operator_weight ops.Div arguments own = 8 * (arguments - 1)
operator_weight ops.Mod arguments own = 8
operator_weight ops.Abs arguments own = 4
operator_weight _ arguments own = own

-- the sorts in force in a binding
abbrev pub with_sorts : List Sort → Option (List Sort) → List Sort
with_sorts sorts None = sorts
with_sorts sorts (Some found) = sorts ++ found

unfoldable mutual
  -- the weight of a term, where the values in force have these sorts
  pub weight : Scope → List Sort → Expr → ℕ
  weight scope sorts (Constant value) = sort_weight (sort_in scope sorts (Constant value))
  weight scope sorts (Variable position) = sort_weight (sort_in scope sorts (Variable position))
  weight scope sorts (Apply operator arguments) = weights scope sorts arguments + operator_weight operator (count arguments) (sort_weight (sort_in scope sorts (Apply operator arguments)))
  weight scope sorts (Invoke function arguments) = weights scope sorts arguments + sort_weight (sort_in scope sorts (Invoke function arguments))
  weight scope sorts (Bind bound inner) = weights scope sorts bound + weight scope (with_sorts sorts (sorts_in scope sorts bound)) inner + sort_weight (sort_in scope sorts (Bind bound inner))

  pub weights : Scope → List Sort → Exprs → ℕ
  weights scope sorts none = 0
  weights scope sorts (more first rest) = weight scope sorts first + weights scope sorts rest

-- what the body of a query may name
abbrev pub query_scope : (Op → Bool) → Scope
query_scope owned = record { owned = owned; defined = []; wanted = [] }
