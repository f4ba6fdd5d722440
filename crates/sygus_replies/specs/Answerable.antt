-- Which problems can be answered: what is asked fits and has names, and replies give members of the grammars.
use Rattle.std.specs.Prelude.{Bool}
use Rattle.sy_terms.specs.declared.op.Op.{Op}
use Rattle.sy_terms.specs.declared.sort.Sort.{Sort}
use Rattle.sy_terms.specs.declared.theory.Theory.{Ghosts as TheoryOf}
use Rattle.sy_grammar_base.specs.Fits.{QuestionFits}
use Rattle.sy_grammar_base.specs.Questions.{Question, question_of}
use Rattle.sy_grammar_base.specs.Solving.{AreMembers}
use Rattle.sy_grammar_base.specs.declared.problem.Problem.{Problem}
use Rattle.sy_scope_causes.specs.declared.titles.Titles.{Titles}
use Rattle.sy_reply.specs.Writable.{IsTitled}
use Rattle.sygus_replies.specs.Replies.{Reply, Defined, Infeasible, Failed}

-- all that is asked fits, and has names
pub record IsAnswerable (owned : Op → Bool) (numeric : Sort → Bool) (titles : Titles) (question : Question) : Type 0 where
  pub fits : QuestionFits owned numeric question
  pub titled : IsTitled titles question

-- so of a problem over a theory
abbrev pub IsAnswerableFor : {T N : Type 0} → TheoryOf T N → Titles → Problem T N → Type 0
IsAnswerableFor theory titles problem = IsAnswerable theory.owned theory.numeric titles (question_of theory.denotes problem)

-- the bodies of a reply are members of the grammars
abbrev pub HasMembers : Question → Reply → Type 0
HasMembers question (Defined bodies) = AreMembers question.goals bodies
HasMembers question Infeasible = Unit {0}
HasMembers question (Failed name) = Unit {0}
