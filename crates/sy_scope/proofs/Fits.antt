-- What is read of a file fits.
use Rattle.std.proofs.Common.{◌≡◌, ℕ, List, [], ◌∷◌, map, ap, subst, Bool, Some, Ok, All}
use Rattle.std.specs.Prelude.{IfOk}
use Rattle.std.proofs.lemmas.List.Elements.{All-nil, All-cons, All-head, All-tail}
use Rattle.sy_terms.specs.Values.{Val}
use Rattle.sy_terms.specs.declared.op.Op.{Op}
use Rattle.sy_terms.specs.declared.sort.Logic.{Logic}
use Rattle.sy_terms.specs.declared.sort.Sort.{Sort}
use Rattle.sy_grammar_base.specs.Questions.{Question, question_of}
use Rattle.sy_grammar_base.specs.declared.problem.Problem.{Problem}
use Rattle.sy_terms.specs.Logics.{IsTheoryOf}
use Rattle.sy_grammar_base.specs.Fits.{QuestionFits}
use Rattle.sy_scope_names.specs.Contexts as spec
use Rattle.sy_scope_steps.specs.Files.{FileOutcome, file_read}
use Rattle.sy_scope.proofs.Files.{file_fits}
use Rattle.sy_scope_declared.specs.Seen.{context_of}
use Rattle.sy_scope_declared.specs.declared.context.Context.{Context}
use Rattle.sy_scope.specs.Fit.{ProblemsFit}

-- a fact of all questions, of all problems
of_problems : {T N : Type 0} (number : N → Val) (P : Question → Type 0) (problems : List (Problem T N)) → All P (map (question_of number) problems) → All (λ (p : Problem T N). P (question_of number p)) problems
of_problems {T} {N} number P [] fit = All-nil (λ (p : Problem T N). P (question_of number p))
of_problems {T} {N} number P (p ∷ problems) fit =
    All-cons (λ (p : Problem T N). P (question_of number p)) p problems
    (All-head P (question_of number p) (map (question_of number) problems) fit)
    (of_problems number P problems (All-tail P (question_of number p) (map (question_of number) problems) fit))

-- the problems of a context that was read fit
pub read_fit : {T N : Type 0} (owned : Op → Bool) (numeric : Sort → Bool) (number : N → Val) (logic : Logic) (context : Context T N) (file : List ℕ) →
    IsTheoryOf logic owned numeric → context.logic ≡ logic → file_read file ≡ Ok (context_of number context) → ProblemsFit owned numeric number context.questions
read_fit owned numeric number logic context file theory same is =
    let fit = subst (λ (o : FileOutcome). IfOk o (λ (c : spec.Context). c.logic ≡ Some logic → All (QuestionFits owned numeric) c.questions)) is (file_fits file logic owned numeric theory) in
    of_problems number (QuestionFits owned numeric) context.questions (fit (ap Some same))
