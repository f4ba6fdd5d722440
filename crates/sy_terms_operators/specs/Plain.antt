-- Terms without bindings and calls.
use Rattle.std.specs.Prelude.{ℕ, Bool, true, false, ◌&&◌, nat_lt}
use Rattle.sy_terms.specs.Expr.{Expr, Exprs, Constant, Variable, Apply, Invoke, Bind, none, more}

-- constants, operators and the first variables alone: it means the same where further values are in force
unfoldable mutual
  pub is_plain : ℕ → Expr → Bool
  is_plain count (Constant value) = true
  is_plain count (Variable position) = nat_lt position count
  is_plain count (Apply operator arguments) = are_plain count arguments
  is_plain count (Invoke function arguments) = false
  is_plain count (Bind bound inner) = false

  pub are_plain : ℕ → Exprs → Bool
  are_plain count none = true
  are_plain count (more first rest) = is_plain count first && are_plain count rest
