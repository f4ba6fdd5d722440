-- What a file asks can be answered.
use Rattle.std.proofs.Common.{List, map}
use Rattle.std.specs.Prelude.{Bool, All}
use Rattle.std.proofs.lemmas.List.Elements.{All-map}
use Rattle.sy_terms.specs.Values.{Val}
use Rattle.sy_terms.specs.declared.op.Op.{Op}
use Rattle.sy_terms.specs.declared.sort.Sort.{Sort}
use Rattle.sy_scope_causes.specs.declared.titles.Titles.{Titles}
use Rattle.sy_grammar_base.specs.Fits.{QuestionFits}
use Rattle.sy_grammar_base.specs.Questions.{question_of}
use Rattle.sy_grammar_base.specs.declared.problem.Problem.{Problem}
use Rattle.sy_scope.specs.Fit.{ProblemsFit}
use Rattle.sy_reply.specs.Writable.{IsTitled}
use Rattle.sygus_replies.specs.Answerable.{IsAnswerable}

-- what a file asks over a theory can be answered
pub answerable : {T N : Type 0} (owned : Op → Bool) (numeric : Sort → Bool) (number : N → Val) (titles : Titles) (problems : List (Problem T N)) → All (IsTitled titles) (map (question_of number) problems) → ProblemsFit owned numeric number problems
    → All (IsAnswerable owned numeric titles) (map (question_of number) problems)
answerable owned numeric number titles problems titled fit =
    let fits = All-map (QuestionFits owned numeric) (question_of number) problems fit in
    λ k d within. record { fits = fits k d within; titled = titled k d within }
