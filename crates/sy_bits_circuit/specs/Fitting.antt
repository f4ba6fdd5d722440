-- Terms without calls that fit.
use Rattle.std.specs.Prelude.{ℕ, ◌*◌, ◌≡◌, List, Some}
use Rattle.sy_terms.specs.Expr.{Expr, Exprs}
use Rattle.sy_terms.specs.Fitting.{Scope, sort_in, sorts_in}
use Rattle.sy_terms.specs.declared.sort.Sort.{Sort}
use Rattle.sy_query_base.specs.Weights.{query_scope, weight, weights}
use Rattle.sy_meaning_words.specs.Vectors.{owned}

-- what a query's body may name
abbrev pub scope : Scope
scope = query_scope owned

-- the term has a sort where the values in force have these
pub record TermHasSort (sorts : List Sort) (term : Expr) : Type 0 where
  pub sort : Sort
  pub is : sort_in scope sorts term ≡ Some sort

pub record HaveSorts (sorts : List Sort) (terms : Exprs) : Type 0 where
  pub found : List Sort
  pub are : sorts_in scope sorts terms ≡ Some found

-- 145 gates for each unit of weight
abbrev pub most_gates : List Sort → Expr → ℕ
most_gates sorts term = 145 * weight scope sorts term

abbrev pub all_most_gates : List Sort → Exprs → ℕ
all_most_gates sorts terms = 145 * weights scope sorts terms
