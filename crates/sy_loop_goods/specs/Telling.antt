-- What evaluation tells of a constraint.
use Rattle.std.specs.Prelude.{Bool, true, false, List, Option, Some, None}
use Rattle.sy_terms.specs.Values.{Val}
use Rattle.sy_terms.specs.Expr.{Expr}
use Rattle.sy_grammar_base.specs.Questions.{Question}
use Rattle.sy_grammar_base.specs.Solving.{IsTrueUnder}
use Rattle.sy_loop_spec.specs.Budgets.{LeavesRange}

-- it is true, it isn't, or it isn't computable
abbrev pub TellsTruth : Question → List Expr → List Val → Expr → Option Bool → Type 0
TellsTruth question bodies values term (Some true) = IsTrueUnder question bodies values term
TellsTruth question bodies values term (Some false) = IsTrueUnder question bodies values term → ⊥
TellsTruth question bodies values term None = LeavesRange question bodies values term
