use Rattle.std.proofs.Common.{◌≡◌, ℕ, length, slice_get, Some}
use Rattle.sy_terms.specs.Expr.{Expr}
use Rattle.sy_grammar_base.specs.Questions.{question_of}
use Rattle.sy_loop_pointwise.specs.Posed.{PosesConstraint}
use Rattle.sy_loop_pointwise.proofs.posed.pose.Given as goal

-- the constraints so far are kept
abbrev pub invariant-loop-constraint : goal.invariant-loop-constraint
invariant-loop-constraint g l =
    let question = question_of g.T.Theory.denotes l.fn.problem in
    record {
      many : length l.all.items ≡ l.constraint-index;
      each : (place : ℕ) (constraint : Expr) (posed : _) → slice_get question.constraints place ≡ Some constraint → slice_get l.all.items place ≡ Some posed → PosesConstraint question constraint posed;
    }
