-- What a right answer to a drill says.
use Rattle.std.proofs.Common.{◌≡◌, ap, ◌∙◌, ℕ, List, length, map}
use Rattle.std.proofs.lemmas.List.{length-map}
use Rattle.sy_terms.specs.Expr.{Expr}
use Rattle.sy_terms.specs.declared.theory.Theory.{Ghosts as TheoryOf}
use Rattle.sy_grammar_base.specs.Questions.{Question}
use Rattle.sy_query_limits.specs.declared.Limits.{Limits}
use Rattle.sy_query_base.specs.declared.decide.Decide.{Ghosts as DecideOf}
use Rattle.sy_loop_spec.specs.declared.outcome.Outcome.{Outcome}
use Rattle.sy_loop_spec.specs.declared.outcome.Outcome.TheVariants.{Found, Infeasible, Fail}
use Rattle.sygus_drills.specs.Examples.{examples}
use Rattle.sygus_drills.specs.Asked.{AsksFor, constraint}
use Rattle.sygus_drills.proofs.Lengths.{thousand}
use Rattle.sygus_replies.specs.Replies.{reply_for}
use Rattle.sygus_words.specs.declared.settings.Mode.{Mode}
use Rattle.sygus_answers.specs.RightAnswers.{RightOutcomeFor}
use Rattle.sygus_drills.specs.DrillAnswers.{HasSolution}

-- bodies that are found are a solution
pub right_solution : {T N D P S : Type 0} (theory : TheoryOf T N) (solver : DecideOf D T P S N) (mode : Mode) (limits : Limits) (question : Question) (outcome : Outcome T P S N) → RightOutcomeFor theory solver mode limits question outcome → HasSolution question (reply_for theory solver outcome)
right_solution theory solver mode limits question (Found bodies proof) is = let right = is.right in (right.members, right.solves)
right_solution theory solver mode limits question Infeasible is = tt
right_solution theory solver mode limits question (Fail cause) is = tt

-- a drill has as many constraints as examples
pub thousand_asked : (number k : ℕ) (question : Question) → AsksFor k (examples number) question → length question.constraints ≡ 1000
thousand_asked number k question asks =
    ap (λ (all : List Expr). length all) asks.constraints ∙ length-map (examples number) constraint ∙ thousand number
