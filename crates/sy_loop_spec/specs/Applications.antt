-- The applications of functions to be found.
use Rattle.std.specs.Prelude.{ℕ, List, [], ◌∷◌, ◌++◌}
use Rattle.sy_terms.specs.Expr.{Expr, Exprs, Constant, Variable, Apply, Invoke, Bind, none, more}
use Rattle.sy_terms.specs.declared.term.Fun.TheVariants.{Defined, Wanted}

unfoldable mutual
  -- the function and the arguments of each application within a term, those of its arguments before it
  pub applications : Expr → List (ℕ × Exprs)
  applications (Constant value) = []
  applications (Variable position) = []
  applications (Apply operator arguments) = all_applications arguments
  applications (Invoke (Defined f) arguments) = all_applications arguments
  applications (Invoke (Wanted f) arguments) = all_applications arguments ++ (f, arguments) ∷ []
  applications (Bind bound inner) = all_applications bound ++ applications inner

  pub all_applications : Exprs → List (ℕ × Exprs)
  all_applications none = []
  all_applications (more first rest) = applications first ++ all_applications rest
