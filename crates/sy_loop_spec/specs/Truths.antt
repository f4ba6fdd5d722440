-- What is true under bodies at an assignment.
use Rattle.std.specs.Prelude.{ℕ, List, map, All, Contains}
use Rattle.sy_terms.specs.Values.{Val}
use Rattle.sy_terms.specs.Expr.{Expr}
use Rattle.sy_terms.specs.Meaning.{functions, function_from, asked}
use Rattle.sy_grammar_base.specs.Questions.{Question}
use Rattle.sy_grammar_base.specs.Solving.{IsTrueUnder}
use Rattle.sy_meaning.specs.Calls.{IsCallOf}
use Rattle.sy_loop_spec.specs.Budgets as budgets
use Rattle.sy_grammar_base.specs.Fits.{wanted_of}

-- the calls that a term asks for, where the functions to be found have these bodies
abbrev pub asked_by : Question → List Expr → List Val → Expr → List (ℕ × List Val)
asked_by question bodies values term =
    asked (functions question.definitions) (map (function_from (functions question.definitions)) bodies) values term

-- the term isn't true, and asks for these calls and no others
pub record IsFalseByCalls (question : Question) (bodies : List Expr) (values : List Val) (term : Expr) (calls : List (ℕ × List Val)) : Type 0 where
  pub untrue : IsTrueUnder question bodies values term → ⊥
  pub all : (call : ℕ × List Val) → Contains (asked_by question bodies values term) call → Contains calls call
  pub only : (call : ℕ × List Val) → Contains calls call → Contains (asked_by question bodies values term) call
  pub taken : All (IsCallOf (wanted_of question)) calls

-- one of the terms isn't true
pub record IsOneFalse (question : Question) (bodies : List Expr) (values : List Val) (terms : List Expr) (calls : List (ℕ × List Val)) : Type 0 where
  pub term : Expr
  pub of : Contains terms term
  pub is : IsFalseByCalls question bodies values term calls

-- one of the terms leaves the range
pub record OneLeaves (question : Question) (bodies : List Expr) (values : List Val) (terms : List Expr) : Type 0 where
  pub term : Expr
  pub of : Contains terms term
  pub leaves : budgets.LeavesRange question bodies values term

-- the bodies make all assumptions true and a constraint false, which asks for these calls
pub record IsViolated (question : Question) (bodies : List Expr) (values : List Val) (calls : List (ℕ × List Val)) : Type 0 where
  pub assumed : All (IsTrueUnder question bodies values) question.assumptions
  pub constraint : IsOneFalse question bodies values question.constraints calls
