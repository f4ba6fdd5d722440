-- What is found of a candidate.
use Rattle.std.specs.Prelude.{ℕ, Bool, List}
use Rattle.sy_terms.specs.Values.{Val}
use Rattle.sy_terms.specs.Expr.{Expr}
use Rattle.sy_terms.specs.Denoted.{vals_of}
use Rattle.sy_terms.specs.declared.op.Op.{Op}
use Rattle.sy_grammar_base.specs.Questions.{Question}
use Rattle.sy_grammar_base.specs.Solving.{AreValues}
use Rattle.sy_query_limits.specs.declared.FailName.{FailName}
use Rattle.sy_query_limits.specs.declared.Limits.{Limits}
use Rattle.sy_query_base.specs.Asked.{Query}
use Rattle.sy_query_base.specs.Queries.{violating, Violates}
use Rattle.sy_query_base.specs.Solutions.{IsSolution}
use Rattle.sy_verify.specs.Posing.{IsFirstOutside, IsHeavy, IsPosed}
use Rattle.sy_verify.specs.declared.checked.Checked.{Checked}
use Rattle.sy_verify.specs.declared.checked.Checked.TheVariants.{Holds, NotMember, Heavy, Refuted, Spent}

-- values of the problem's variables at which the bodies violate it
pub record IsCounterexample (question : Question) (bodies : List Expr) (values : List Val) : Type 0 where
  pub sorted : AreValues question.variables values
  pub violates : Violates question bodies values

-- The five cases exclude each other but for the last three. There the query was handed to the solver: the bodies solve the
-- problem and the proof is accepted, a counterexample refutes them, or one of the solver's budgets ran out.
abbrev pub IsChecked : {T P S N : Type 0} → (Op → Bool) → (N → Val) → (Query → P → Type 0) → (S → FailName) → (Query → Limits → FailName → S → Type 0) → Question → Limits → List Expr → Checked T P S N → Type 0
IsChecked owned number accepted budget shows question limits bodies (Holds proof) =
    IsPosed owned question bodies limits.weight × IsSolution accepted question bodies proof
IsChecked owned number accepted budget shows question limits bodies (NotMember function) = IsFirstOutside question.goals bodies function
IsChecked owned number accepted budget shows question limits bodies Heavy = IsHeavy owned question bodies limits.weight
IsChecked owned number accepted budget shows question limits bodies (Refuted values) =
    IsPosed owned question bodies limits.weight × IsCounterexample question bodies (vals_of number values)
IsChecked owned number accepted budget shows question limits bodies (Spent spent) =
    IsPosed owned question bodies limits.weight × shows (violating question bodies) limits (budget spent) spent
