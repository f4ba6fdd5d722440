-- What refutes bodies at the assignments of a history.
use Rattle.std.specs.Prelude.{ℕ, List, Contains}
use Rattle.sy_terms.specs.Values.{Val}
use Rattle.sy_terms.specs.Expr.{Expr}
use Rattle.sy_grammar_base.specs.Questions.{Question}
use Rattle.sy_points.specs.Asked.{Asked}
use Rattle.sy_loop_spec.specs.Adding.{AreAsked}
use Rattle.sy_loop_spec.specs.Histories.{Counterexample}
use Rattle.sy_loop_spec.specs.Truths.{IsViolated}

-- the bodies violate the problem at an assignment of the history, and the calls that show it are among the tuples
pub record IsRefuted (question : Question) (history : List Counterexample) (asked : Asked) (bodies : List Expr) : Type 0 where
  pub counterexample : Counterexample
  pub stored : Contains history counterexample
  pub calls : List (ℕ × List Val)
  pub violated : IsViolated question bodies counterexample.assignment calls
  pub there : AreAsked calls asked
