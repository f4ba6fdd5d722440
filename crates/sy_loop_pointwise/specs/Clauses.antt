-- What clauses say of a problem, for a theory.
use Rattle.std.specs.Prelude.{ℕ, List}
use Rattle.sy_terms.specs.declared.theory.Theory.{Ghosts as TheoryOf}
use Rattle.sy_grammar_base.specs.Questions.{question_of}
use Rattle.sy_grammar_base.specs.declared.problem.Problem.{Problem}
use Rattle.sy_points.specs.Asked.{Asked}
use Rattle.sy_points.specs.declared.stored.Stored.{Stored}
use Rattle.sy_loop_spec.specs.Stored.{history_of}
use Rattle.sy_loop_truth.specs.declared.rest.Rest.{Rest}
use Rattle.sy_loop_pointwise.specs.Placing.{Places}
use Rattle.sy_loop_pointwise.specs.Resting.{AnswersResting, WidensByRests}
use Rattle.sy_loop_pointwise.specs.declared.rests.Placed.{Placed}
use Rattle.sy_loop_pointwise.specs.declared.rests.Resting.{Resting}

module _ {T N : Type 0} (theory : TheoryOf T N) (problem : Problem T N) where
  abbrev pub WidensByRestsFor : Stored T N → Asked → Asked → Type 0
  WidensByRestsFor stored = WidensByRests (question_of theory.denotes problem) (history_of theory.denotes stored)

  abbrev pub RestsFor : Stored T N → Asked → Asked → Resting → Type 0
  RestsFor stored = AnswersResting (question_of theory.denotes problem) (history_of theory.denotes stored)

  -- what becomes of the constraints from the first numbers to the last, at the stored assignment of this place
  abbrev pub PlacesFor : Stored T N → ℕ → ℕ → ℕ → ℕ → ℕ → Asked → List Rest → Asked → List Rest → Placed → Type 0
  PlacesFor stored = Places (question_of theory.denotes problem) (history_of theory.denotes stored)
