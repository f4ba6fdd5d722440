-- Constraints of pointwise problems, as they are kept.
use Rattle.std.specs.Prelude.{ℕ, List, [], ◌≡◌, length, slice_get, Some}
use Rattle.sy_terms.specs.Expr.{Expr}
use Rattle.sy_grammar_base.specs.Questions.{Question}
use Rattle.sy_loop_spec.specs.Applications.{applications}
use Rattle.sy_loop_spec.specs.WrittenOut.{written_out}
use Rattle.sy_loop_pointwise.specs.Shapes.{subterms}
use Rattle.sy_loop_pointwise.specs.Asked.{IsTheCall}
use Rattle.sy_loop_pointwise.specs.declared.posed.Posed as kept
use Rattle.sy_loop_pointwise.specs.declared.posed.Posed.TheVariants.{Free, Applies}

-- what is kept of the constraint: it has no application, or the subterm of this number is one, and all have its arguments, which contain none
abbrev pub PosesConstraint : {T N : Type 0} → Question → Expr → kept.Posed T N → Type 0
PosesConstraint question constraint Free = applications (written_out question constraint) ≡ []
PosesConstraint question constraint (Applies shapes call) = IsTheCall (subterms shapes) (applications (written_out question constraint)) call

-- what is kept of each constraint, in order
pub record ArePosed {T N : Type 0} (question : Question) (all : List (kept.Posed T N)) : Type 0 where
  pub many : length all ≡ length question.constraints
  pub each : (place : ℕ) (constraint : Expr) (posed : kept.Posed T N) → slice_get question.constraints place ≡ Some constraint → slice_get all place ≡ Some posed → PosesConstraint question constraint posed
