-- Queries apart from how a machine keeps them, and what satisfies them.
use Rattle.std.specs.Prelude.{ℕ, Bool, true, ◌≡◌, ◌≢◌, List, [], All, Some}
use Rattle.sy_terms.specs.Values.{Val, Truth}
use Rattle.sy_terms.specs.Expr.{Expr}
use Rattle.sy_terms.specs.Denoted.{expr_of}
use Rattle.sy_terms.specs.Fitting.{sort_in}
use Rattle.sy_terms.specs.Meaning.{meaning}
use Rattle.sy_terms.specs.declared.op.Op.{Op}
use Rattle.sy_terms.specs.declared.sort.Sort.{Sort}
use Rattle.sy_terms.specs.declared.sort.Sort.TheVariants as sorts
use Rattle.sy_grammar_base.specs.Formed.{is_known}
use Rattle.sy_grammar_base.specs.Solving.{AreValues}
use Rattle.sy_query_base.specs.Weights.{weight, query_scope}
use Rattle.sy_query_base.specs.declared.query.Query as kept

-- the sorts of the variables, and a term over them
pub record Query : Type 0 where
  pub variables : List Sort
  pub body : Expr

-- what a kept query asks
abbrev pub query_of : {T N : Type 0} → (N → Val) → kept.Query T N → Query
query_of number query = record { variables = query.vars; body = expr_of number query.body }

-- the variables have sorts of the theory, and the body is a truth value's term over them, which calls nothing
pub record QueryFits (owned : Op → Bool) (numeric : Sort → Bool) (query : Query) : Type 0 where
  pub variables : All (λ sort. is_known numeric sort ≡ true) query.variables
  pub body : sort_in (query_scope owned) query.variables query.body ≡ Some sorts.Bool

-- what a query weighs
abbrev pub query_weight : (Op → Bool) → Query → ℕ
query_weight owned query = weight (query_scope owned) query.variables query.body

-- a value of each variable's sort, at which the body is true
pub record Satisfies (query : Query) (values : List Val) : Type 0 where
  pub sorted : AreValues query.variables values
  pub true : meaning [] [] values query.body ≡ Truth true

-- no assignment satisfies the query
abbrev pub IsNever : Query → Type 0
IsNever query = (values : List Val) → AreValues query.variables values → meaning [] [] values query.body ≢ Truth true
