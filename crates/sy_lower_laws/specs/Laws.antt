-- What a query and its lowering have to do with each other.
use Rattle.std.specs.Prelude.{◌+◌, ◌*◌, ◌≤◌, ◌≡◌, Bool, true, false, ◌&&◌, List, ◌++◌, length, take}
use Rattle.sy_terms.specs.Values.{Val, Bits}
use Rattle.sy_terms.specs.Expr.{Expr, Exprs, Constant, Variable, Apply, Invoke, Bind, none, more, nodes}
use Rattle.sy_query_base.specs.Asked.{Query, QueryFits, Satisfies, query_weight}
use Rattle.sy_meaning_integers.specs.Lia.{owned, numeric}

abbrev pub is_integral : Val → Bool
is_integral (Bits width number) = false
is_integral _ = true

unfoldable mutual
  -- each constant is a truth value or a whole number
  pub has_integers : Expr → Bool
  has_integers (Constant value) = is_integral value
  has_integers (Variable position) = true
  has_integers (Apply operator arguments) = have_integers arguments
  has_integers (Invoke function arguments) = have_integers arguments
  has_integers (Bind bound inner) = have_integers bound && has_integers inner

  pub have_integers : Exprs → Bool
  have_integers none = true
  have_integers (more first rest) = has_integers first && have_integers rest

-- the query fits over the integers, and its constants are truth values and whole numbers
pub record IsOverIntegers (query : Query) : Type 0 where
  pub fits : QueryFits owned numeric query
  pub integers : has_integers query.body ≡ true

-- an assignment satisfies the query exactly where some extension of it satisfies the lowering
pub record IsLowering (query lowered : Query) : Type 0 where
  pub fits : QueryFits owned numeric lowered
  pub begins : take (length query.variables) lowered.variables ≡ query.variables
  pub onto : (values : List Val) → Satisfies query values → (more : List Val) × Satisfies lowered (values ++ more)
  pub back : (values : List Val) → Satisfies lowered values → Satisfies query (take (length query.variables) values)

-- the lowering is at most so much larger than the query's weight
pub record IsSmall (query lowered : Query) : Type 0 where
  pub nodes : nodes lowered.body ≤ 20 * query_weight owned query + 1
  pub variables : length lowered.variables ≤ length query.variables + 4 * query_weight owned query
