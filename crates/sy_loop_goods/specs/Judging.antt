-- Whether constraints are true under bodies, each at an assignment.
use Rattle.std.specs.Prelude.{◌≡◌, List, slice_get, Some, All, Contains}
use Rattle.sy_terms.specs.Values.{Val}
use Rattle.sy_terms.specs.Expr.{Expr}
use Rattle.sy_grammar_base.specs.Questions.{Question}
use Rattle.sy_grammar_base.specs.Solving.{IsTrueUnder}
use Rattle.sy_loop_truth.specs.Traces.{LeavesRangeAt}
use Rattle.sy_loop_spec.specs.Histories.{Counterexample}
use Rattle.sy_loop_spec.specs.Goods.{assignments_of}
use Rattle.sy_loop_goods.specs.declared.judging.Judged.{Judged}
use Rattle.sy_loop_goods.specs.declared.judging.Judged.TheVariants.{Good, Bad, Leaves}
use Rattle.sy_loop_truth.specs.declared.rest.Rest.{Rest}

-- the constraint of this number is true under the bodies at the assignment of this number
abbrev pub IsTrueAt : Question → List (List Val) → List Expr → Rest → Type 0
IsTrueAt question assignments bodies rest = (constraint : Expr) (values : List Val) → slice_get question.constraints rest.constraint ≡ Some constraint → slice_get assignments rest.place ≡ Some values →
    IsTrueUnder question bodies values constraint

-- one of them isn't
pub record IsOneUntrue (question : Question) (assignments : List (List Val)) (bodies : List Expr) (rests : List Rest) : Type 0 where
  pub rest : Rest
  pub of : Contains rests rest
  pub constraint : Expr
  pub is : slice_get question.constraints rest.constraint ≡ Some constraint
  pub values : List Val
  pub stored : slice_get assignments rest.place ≡ Some values
  pub untrue : IsTrueUnder question bodies values constraint → ⊥

-- the answer
abbrev pub JudgesRests : Question → List Counterexample → List Expr → List Rest → Judged → Type 0
JudgesRests question history bodies rests Good = All (IsTrueAt question (assignments_of history) bodies) rests
JudgesRests question history bodies rests Bad = IsOneUntrue question (assignments_of history) bodies rests
JudgesRests question history bodies rests (Leaves place) = LeavesRangeAt question history bodies place
