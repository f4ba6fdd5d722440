-- Which answers are right.
use Rattle.std.specs.Prelude.{Bool, List, map, ⊤}
use Rattle.sy_terms.specs.Values.{Val, Whole}
use Rattle.sy_terms.specs.declared.op.Op.{Op}
use Rattle.sy_terms.specs.declared.theory.Theory.{Ghosts as TheoryOf}
use Rattle.sy_meaning_integers.specs.Lia as lia
use Rattle.sy_meaning_words.specs.Vectors as vectors
use Rattle.sy_grammar_base.specs.Questions.{Question, question_of}
use Rattle.sy_grammar_base.specs.declared.problem.Problem.{Problem}
use Rattle.sy_query_limits.specs.declared.FailName.{FailName}
use Rattle.sy_query_limits.specs.declared.Limits.{Limits}
use Rattle.sy_query_base.specs.Asked.{Query}
use Rattle.sy_query_base.specs.declared.decide.Decide.{Ghosts as DecideOf}
use Rattle.sy_intsolve_cuts.specs.Budgets as int_budgets
use Rattle.sy_intsolve.specs.Proofs as int_proofs
use Rattle.sy_bits.specs.Proofs as bits
use Rattle.sy_loop_spec.specs.declared.reach.Reach.TheVariants.{Sizes}
use Rattle.sy_loop_spec.specs.Right.{IsRight}
use Rattle.sy_loop_spec.specs.declared.outcome.Outcome.{Outcome}
use Rattle.sy_loop.specs.Least.{FindsLeast}
use Rattle.sy_loop_stages.specs.Finding.{FindsBeyond}
use Rattle.sygus_words.specs.Reaches.{reach_of}
use Rattle.sygus_words.specs.declared.settings.Mode.{Mode}
use Rattle.sygus_words.specs.declared.settings.Mode.TheVariants.{Solve, Least, Check, Recheck, Clauses, Drill}
use Rattle.sygus_replies.specs.Answered.{AreRight}
use Rattle.sygus_answers.specs.declared.answers.Answers.{Answers}
use Rattle.sygus_answers.specs.declared.answers.Answers.TheVariants.{Idle, Ints, Bits, IntChecks, BitChecks, IntRechecks, BitRechecks, IntSpellings, BitSpellings}

-- bodies that are found are of the least bound in which any solve the problem: in modes `solve` and `drill`, unless the search
-- of a stage had ended before
abbrev pub FindsWell : {T P S N : Type 0} → (Op → Bool) → (N → Val) → (S → FailName) → (Query → Limits → FailName → S → Type 0) → Mode → Limits → Question → Outcome T P S N → Type 0
FindsWell owned number budget shows Solve limits question outcome = FindsBeyond owned number budget shows question limits outcome
FindsWell owned number budget shows Least limits question outcome = FindsLeast number Sizes question outcome
FindsWell owned number budget shows Check limits question outcome = FindsBeyond owned number budget shows question limits outcome
FindsWell owned number budget shows Recheck limits question outcome = FindsBeyond owned number budget shows question limits outcome
FindsWell owned number budget shows Clauses limits question outcome = FindsBeyond owned number budget shows question limits outcome
FindsWell owned number budget shows (Drill n) limits question outcome = FindsBeyond owned number budget shows question limits outcome

-- the outcome is right within these limits, and so are bodies that are found
pub record RightOutcome {T P S N : Type 0} (owned : Op → Bool) (number : N → Val) (accepted : Query → P → Type 0) (budget : S → FailName) (shows : Query → Limits → FailName → S → Type 0)
    (mode : Mode) (limits : Limits) (question : Question) (outcome : Outcome T P S N) : Type 0 where
  pub right : IsRight owned number accepted budget shows (reach_of mode) question limits outcome
  pub well : FindsWell owned number budget shows mode limits question outcome

-- the same for a theory and a solver
abbrev pub RightOutcomeFor : {T N D P S : Type 0} → TheoryOf T N → DecideOf D T P S N → Mode → Limits → Question → Outcome T P S N → Type 0
RightOutcomeFor theory solver = RightOutcome theory.owned theory.denotes solver.accepted solver.budget solver.shows

-- these outcomes are right for the first problems, in order
abbrev pub AreRightFor : {T N D P S : Type 0} → TheoryOf T N → DecideOf D T P S N → Mode → Limits → List (Problem T N) → List (Outcome T P S N) → Type 0
AreRightFor theory solver mode limits problems outcomes = AreRight (RightOutcomeFor theory solver mode limits) (map (question_of theory.denotes) problems) outcomes

-- the answers of a run are right for the first questions, in order; judgements of replies are none
abbrev pub AreRightAnswers : Mode → Limits → List Question → Answers → Type 0
AreRightAnswers mode limits questions Idle = ⊤
AreRightAnswers mode limits questions (Ints outcomes) =
    AreRight (RightOutcome lia.owned Whole int_proofs.Accepted int_budgets.budget int_proofs.ShowsFor mode limits) questions outcomes
AreRightAnswers mode limits questions (Bits outcomes) =
    AreRight (RightOutcome vectors.owned vectors.vector bits.Accepted bits.budget bits.Shows mode limits) questions outcomes
AreRightAnswers mode limits questions (IntChecks found) = ⊥
AreRightAnswers mode limits questions (BitChecks found) = ⊥
AreRightAnswers mode limits questions (IntRechecks found) = ⊥
AreRightAnswers mode limits questions (BitRechecks found) = ⊥
AreRightAnswers mode limits questions (IntSpellings found) = ⊥
AreRightAnswers mode limits questions (BitSpellings found) = ⊥
