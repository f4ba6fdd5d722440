-- What is found of definitions can be written.
use Rattle.std.specs.Prelude.{Bool, List}
use Rattle.sy_terms.specs.Values.{Val}
use Rattle.sy_terms.specs.Expr.{Expr}
use Rattle.sy_terms.specs.declared.op.Op.{Op}
use Rattle.sy_grammar_base.specs.Questions.{Question}
use Rattle.sy_query_limits.specs.declared.FailName.{FailName}
use Rattle.sy_query_limits.specs.declared.Limits.{Limits}
use Rattle.sy_query_base.specs.Asked.{Query}
use Rattle.sy_verify.specs.Checking.{IsChecked}
use Rattle.sy_verify.specs.declared.checked.Checked.{Checked}
use Rattle.sy_verify.specs.declared.checked.Checked.TheVariants as found
use Rattle.sygus_verdicts.specs.Verdicts.{IsPrintable}
use Rattle.sygus_verdicts.specs.Found.{verdict_found}

-- a counterexample has values of their sorts
pub printable : {T P S N : Type 0} (owned : Op → Bool) (number : N → Val) (accepted : Query → P → Type 0) (budget : S → FailName) (shows : Query → Limits → FailName → S → Type 0) (question : Question) (limits : Limits) (bodies : List Expr) (checked : Checked T P S N)
    → IsChecked owned number accepted budget shows question limits bodies checked → IsPrintable (verdict_found number budget checked)
printable owned number accepted budget shows question limits bodies (found.Holds proof) is = tt
printable owned number accepted budget shows question limits bodies (found.NotMember function) is = tt
printable owned number accepted budget shows question limits bodies found.Heavy is = tt
printable owned number accepted budget shows question limits bodies (found.Refuted values) is = is.1.sorted.valid
printable owned number accepted budget shows question limits bodies (found.Spent spent) is = tt
