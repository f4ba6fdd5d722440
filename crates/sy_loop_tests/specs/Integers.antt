-- Terms over one integer.
use Rattle.std.specs.Prelude.{◌≡◌, [], ◌∷◌, Some}
use Rattle.sy_terms.specs.Expr.{Expr}
use Rattle.sy_terms.specs.Fitting.{Scope, sort_in}
use Rattle.sy_terms.specs.declared.sort.Sort.TheVariants.{Int}

-- the term is an integer over one integer
abbrev pub IsInteger : Scope → Expr → Type 0
IsInteger scope term = sort_in scope (Int ∷ []) term ≡ Some Int
