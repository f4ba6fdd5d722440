-- What clauses say of outcomes, for a theory.
use Rattle.sy_terms.specs.declared.theory.Theory.{Ghosts as TheoryOf}
use Rattle.sy_grammar_base.specs.Questions.{question_of}
use Rattle.sy_grammar_base.specs.declared.problem.Problem.{Problem}
use Rattle.sy_query_limits.specs.declared.Limits.{Limits}
use Rattle.sy_loop_spec.specs.declared.reach.Reach.{Reach}
use Rattle.sy_loop_spec.specs.Unsolved.{NoSolutionWithin}
use Rattle.sy_loop_spec.specs.declared.outcome.Outcome.{Outcome}
use Rattle.sy_loop_claims.specs.Least.{FindsLeast}

module _ {T N : Type 0} (theory : TheoryOf T N) (reach : Reach) (problem : Problem T N) where
  abbrev pub FindsLeastFor : {P S : Type 0} → Outcome T P S N → Type 0
  FindsLeastFor = FindsLeast theory.denotes reach (question_of theory.denotes problem)

module _ {T N : Type 0} (theory : TheoryOf T N) (reach : Reach) (problem : Problem T N) (limits : Limits) where
  abbrev pub IsUnsolvedFor : Type 0
  IsUnsolvedFor = NoSolutionWithin reach (question_of theory.denotes problem) limits.size
