-- Terms with every binding written out: each name replaced by the term that it is bound to.
use Rattle.std.specs.Prelude.{ℕ, zero, suc, ◌+◌, List, [], ◌∷◌, false}
use Rattle.sy_terms.specs.Values.{Truth}
use Rattle.sy_terms.specs.Expr.{Expr, Exprs, Constant, Variable, Apply, Invoke, Bind, none, more, append}
use Rattle.sy_terms.specs.declared.sort.Sort.{Sort}
use Rattle.sy_grammar_base.specs.Questions.{Question}

-- the term at a position
abbrev pub term_at : Exprs → ℕ → Expr
term_at none position = Constant (Truth false)
term_at (more term rest) zero = term
term_at (more term rest) (suc position) = term_at rest position

unfoldable mutual
  -- the term without bindings, where the names in force stand for these terms
  pub written : Exprs → Expr → Expr
  written known (Constant value) = Constant value
  written known (Variable position) = term_at known position
  written known (Apply operator arguments) = Apply operator (all_written known arguments)
  written known (Invoke function arguments) = Invoke function (all_written known arguments)
  written known (Bind bound inner) = written (append known (all_written known bound)) inner

  pub all_written : Exprs → Exprs → Exprs
  all_written known none = none
  all_written known (more first rest) = more (written known first) (all_written known rest)

-- the variables of these sorts, from a position on
abbrev pub variables_from : ℕ → List Sort → Exprs
variables_from first [] = none
variables_from first (sort ∷ sorts) = more (Variable first) (variables_from (first + 1) sorts)

-- a term over the problem's variables, with every binding written out
abbrev pub written_out : Question → Expr → Expr
written_out question term = written (variables_from 0 question.variables) term
