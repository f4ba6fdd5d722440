-- Where constraints rest, and which bodies are good there, for problems with one function to be found.
use Rattle.std.specs.Prelude.{ℕ, List, [], ◌∷◌, ◌≡◌, Contains}
use Rattle.sy_terms.specs.Values.{Val}
use Rattle.sy_terms.specs.Expr.{Expr, Exprs}
use Rattle.sy_terms.specs.Meaning.{functions, meanings}
use Rattle.sy_grammar_base.specs.Questions.{Question}
use Rattle.sy_grammar_base.specs.Solving.{IsTrueUnder}
use Rattle.sy_loop_spec.specs.WrittenOut.{written_out}
use Rattle.sy_loop_spec.specs.Applications.{applications}

-- the constraint, written out, has an application whose arguments, at these values of the variables, are the tuple
pub record RestsOn (question : Question) (values : List Val) (constraint : Expr) (tuple : List Val) : Type 0 where
  pub application : ℕ × Exprs
  pub of : Contains (applications (written_out question constraint)) application
  pub at : meanings (functions question.definitions) [] values application.1 ≡ tuple

-- a body is good at a tuple: each constraint that rests on it at one of the assignments is true there under the body
pub record IsGoodAt (question : Question) (assignments : List (List Val)) (tuple : List Val) (body : Expr) : Type 0 where
  pub each : (values : List Val) (constraint : Expr) → Contains assignments values → Contains question.constraints constraint →
      RestsOn question values constraint tuple → IsTrueUnder question (body ∷ []) values constraint

-- a body is bad at a tuple: some constraint rests on it at one of the assignments and isn't true there under the body
pub record IsBadAt (question : Question) (assignments : List (List Val)) (tuple : List Val) (body : Expr) : Type 0 where
  pub values : List Val
  pub stored : Contains assignments values
  pub constraint : Expr
  pub of : Contains question.constraints constraint
  pub rests : RestsOn question values constraint tuple
  pub untrue : IsTrueUnder question (body ∷ []) values constraint → ⊥
