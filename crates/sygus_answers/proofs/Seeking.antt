-- What a search answers is right for the modes whose bound it counts by.
use Rattle.std.proofs.Common.{◌≡◌, refl}
use Rattle.sy_terms.specs.declared.theory.Theory.{Ghosts as TheoryOf}
use Rattle.sy_grammar_base.specs.Questions.{question_of}
use Rattle.sy_grammar_base.specs.declared.problem.Problem.{Problem}
use Rattle.sy_query_limits.specs.declared.Limits.{Limits}
use Rattle.sy_query_base.specs.declared.decide.Decide.{Ghosts as DecideOf}
use Rattle.sy_loop_spec.specs.declared.reach.Reach.TheVariants.{Sizes, Joins}
use Rattle.sy_loop_spec.specs.Right.{IsRightFor}
use Rattle.sy_loop_spec.specs.declared.outcome.Outcome.{Outcome}
use Rattle.sy_loop.specs.Least.{FindsLeast}
use Rattle.sygus_words.specs.Reaches.{reach_of}
use Rattle.sygus_words.specs.declared.settings.Mode.{Mode}
use Rattle.sygus_words.specs.declared.settings.Mode.TheVariants.{Solve, Least, Check, Recheck, Clauses, Drill}
use Rattle.sy_loop_stages.specs.Finding.{FindsBeyondFor}
use Rattle.sygus_answers.specs.RightAnswers.{RightOutcomeFor}

module _ {T N D P S : Type 0} (theory : TheoryOf T N) (solver : DecideOf D T P S N) (limits : Limits) (problem : Problem T N) (outcome : Outcome T P S N) where
  pub with_trees : (mode : Mode) → reach_of mode ≡ Joins → IsRightFor theory solver Joins problem limits outcome → FindsBeyondFor theory solver problem limits outcome → RightOutcomeFor theory solver mode limits (question_of theory.denotes problem) outcome
  with_trees Solve is right well = record { right = right; well = well }
  with_trees Least is right well = absurd (cc)
  with_trees Check is right well = record { right = right; well = well }
  with_trees Recheck is right well = record { right = right; well = well }
  with_trees Clauses is right well = record { right = right; well = well }
  with_trees (Drill n) is right well = record { right = right; well = well }

  pub without_trees : (mode : Mode) → (reach_of mode ≡ Joins → ⊥) → IsRightFor theory solver Sizes problem limits outcome → FindsLeast theory.denotes Sizes (question_of theory.denotes problem) outcome → RightOutcomeFor theory solver mode limits (question_of theory.denotes problem) outcome
  without_trees Solve is right well = absurd (is refl)
  without_trees Least is right well = record { right = right; well = well }
  without_trees Check is right well = absurd (is refl)
  without_trees Recheck is right well = absurd (is refl)
  without_trees Clauses is right well = absurd (is refl)
  without_trees (Drill n) is right well = absurd (is refl)
