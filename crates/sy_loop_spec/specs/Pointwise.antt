-- Pointwise problems: the value of the one function to be found at one list of arguments decides each constraint.
use Rattle.std.specs.Prelude.{[], ◌≡◌, length, All}
use Rattle.sy_terms.specs.Expr.{Expr, Exprs}
use Rattle.sy_grammar_base.specs.Questions.{Question}
use Rattle.sy_loop_spec.specs.WrittenOut.{written_out}
use Rattle.sy_loop_spec.specs.Applications.{applications, all_applications}

-- all applications within the term have these arguments, which contain none
pub record IsPosed (term : Expr) (arguments : Exprs) : Type 0 where
  pub same : All (λ application. application.1 ≡ arguments) (applications term)
  pub plain : all_applications arguments ≡ []

-- one function is to be found, and in each constraint, written out, all applications of it have the same arguments
pub record IsPointwise (question : Question) : Type 0 where
  pub one : length question.goals ≡ 1
  pub posed : All (λ constraint. (arguments : Exprs) × IsPosed (written_out question constraint) arguments) question.constraints
