-- Replies of right outcomes.
use Rattle.sy_terms.specs.declared.theory.Theory.{Ghosts as TheoryOf}
use Rattle.sy_grammar_base.specs.Questions.{Question}
use Rattle.sy_query_limits.specs.declared.Limits.{Limits}
use Rattle.sy_query_base.specs.declared.decide.Decide.{Ghosts as DecideOf}
use Rattle.sy_loop_spec.specs.declared.outcome.Outcome.{Outcome}
use Rattle.sy_loop_spec.specs.declared.outcome.Outcome.TheVariants.{Found, Infeasible, Fail}
use Rattle.sygus_replies.specs.Answerable.{HasMembers}
use Rattle.sygus_replies.specs.Replies.{reply_for}
use Rattle.sygus_words.specs.declared.settings.Mode.{Mode}
use Rattle.sygus_answers.specs.RightAnswers.{RightOutcomeFor}

-- a right outcome has members of the grammars
pub right_members : {T N D P S : Type 0} (theory : TheoryOf T N) (solver : DecideOf D T P S N) (mode : Mode) (limits : Limits) (question : Question) (outcome : Outcome T P S N) → RightOutcomeFor theory solver mode limits question outcome → HasMembers question (reply_for theory solver outcome)
right_members theory solver mode limits question (Found bodies proof) is = let right = is.right in right.members
right_members theory solver mode limits question Infeasible is = tt
right_members theory solver mode limits question (Fail cause) is = tt
