-- When all that a file asks for fits.
use Rattle.std.specs.Prelude.{Bool, List, All, ⊤}
use Rattle.sy_terms.specs.Values.{Val, Whole}
use Rattle.sy_terms.specs.declared.op.Op.{Op}
use Rattle.sy_terms.specs.declared.sort.Sort.{Sort}
use Rattle.sy_grammar_base.specs.Questions.{question_of}
use Rattle.sy_grammar_base.specs.declared.problem.Problem.{Problem}
use Rattle.sy_meaning_integers.specs.Lia as lia
use Rattle.sy_meaning_words.specs.Vectors as vectors
use Rattle.sy_grammar_base.specs.Fits.{QuestionFits}
use Rattle.sy_scope.specs.declared.job.Job.{Job}
use Rattle.sy_scope.specs.declared.job.Job.TheVariants as jobs

-- all terms and grammars of the problems fit
abbrev pub ProblemsFit : {T N : Type 0} → (Op → Bool) → (Sort → Bool) → (N → Val) → List (Problem T N) → Type 0
ProblemsFit {T} {N} owned numeric number problems = All (λ (p : Problem T N). QuestionFits owned numeric (question_of number p)) problems

-- so of what is asked over the file's theory
abbrev pub JobFits : Job → Type 0
JobFits jobs.Idle = ⊤
JobFits (jobs.Ints problems titles) = ProblemsFit lia.owned lia.numeric Whole problems
JobFits (jobs.Bits problems titles) = ProblemsFit vectors.owned vectors.is_bits vectors.vector problems
