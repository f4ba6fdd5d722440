-- Rounds of a search.
use Rattle.std.specs.Prelude.{ℕ, Bool, ◌≡◌, ◌⊎◌, ◌+◌, ◌-◌, ◌*◌, ◌<◌, ◌≤◌, List, [], length, map}
use Rattle.sy_terms.specs.Values.{Val}
use Rattle.sy_terms.specs.declared.op.Op.{Op}
use Rattle.sy_grammar_base.specs.Questions.{Question}
use Rattle.sy_grammar_base.specs.declared.problem.Problem.{Problem}
use Rattle.sy_query_limits.specs.declared.FailName.{FailName}
use Rattle.sy_query_limits.specs.declared.Limits.{Limits}
use Rattle.sy_query_base.specs.Asked.{Query}
use Rattle.sy_points.specs.Asked.{Asked}
use Rattle.sy_bank_level.specs.Banks.{Merged}
use Rattle.sy_bank_level.specs.Bank.{merged_of}
use Rattle.sy_loop_spec.specs.declared.reach.Reach.{Reach}
use Rattle.sy_loop_spec.specs.Histories.{Counterexample}
use Rattle.sy_loop_spec.specs.Stored.{history_of}
use Rattle.sy_loop_spec.specs.Right.{IsRight}
use Rattle.sy_loop_truth.specs.Known.{IsKnown, left}
use Rattle.sy_loop_spec.specs.Refuting.{AllTreesViolate, AreDoneBelow}
use Rattle.sy_loop_banks.specs.Banks.{AreBanks, AreCarried}
use Rattle.sy_loop_banks.specs.Dropping.{DroppedNothing}
use Rattle.sy_loop_claims.specs.Least.{FindsLeast}
use Rattle.sy_loop.specs.Levels.{AllAreRefuted}
use Rattle.sy_loop.specs.declared.round.Round.{Round}
use Rattle.sy_loop.specs.declared.round.Round.TheVariants.{Goes, Ends}

-- how much a search may still do: rounds and tuples, and then sizes
abbrev pub work : Limits → List Counterexample → Asked → ℕ → ℕ
work limits history asked level = left limits history asked * (limits.size + 1) + (limits.size - level)

-- the search goes on with less to do, or its outcome is right
abbrev pub Rounds : {T P S N : Type 0} → (Op → Bool) → (N → Val) → (Query → P → Type 0) → (S → FailName) → (Query → Limits → FailName → S → Type 0) → Reach → Question → Limits → List Counterexample → Asked → ℕ → Round T P S N → Type 0
Rounds owned number accepted budget shows reach question limits history asked level (Goes known banks next) =
    IsKnown reach question limits (history_of number known.stored) known.points × (length known.stored.items < limits.rounds) × (next ≤ limits.size)
    × (work limits (history_of number known.stored) known.points next < work limits history asked level)
Rounds owned number accepted budget shows reach question limits history asked level (Ends outcome) =
    IsRight owned number accepted budget shows reach question limits outcome

-- the next size follows: the banks dropped nothing, and what is known refutes all bodies of kept terms of them whose sizes
-- sum to this one, and all conditional trees in its bound
pub record LevelIsDone (reach : Reach) (question : Question) (limits : Limits) (history : List Counterexample) (asked : Asked) (level : ℕ) (banks : List Merged) (next : ℕ) : Type 0 where
  pub one_more : next ≡ level + 1
  pub are : AreBanks question limits asked level banks
  pub whole : DroppedNothing banks
  pub refuted : AllAreRefuted question history asked [] banks level
  pub trees : AllTreesViolate reach question history level

-- the banks with which the search goes on may be carried on
abbrev pub Carries : {T P S N : Type 0} → (Op → Bool) → (N → Val) → Problem T N → Limits → Round T P S N → Type 0
Carries owned number problem limits (Goes known banks next) = AreCarried owned number problem limits next banks.items
Carries owned number problem limits (Ends outcome) = Unit {0}

-- the same size follows, or it is done
abbrev pub LevelFollows : {T P S N : Type 0} → (N → Val) → Reach → Question → Limits → ℕ → Round T P S N → Type 0
LevelFollows number reach question limits level (Goes known banks next) = (next ≡ level) ⊎ LevelIsDone reach question limits (history_of number known.stored) known.points level (map (merged_of number) banks.items) next
LevelFollows number reach question limits level (Ends outcome) = Unit {0}

-- all sizes before the one with which the search goes on are done
abbrev pub LesserAreDone : {T P S N : Type 0} → (N → Val) → Reach → Question → Round T P S N → Type 0
LesserAreDone number reach question (Goes known banks next) = AreDoneBelow reach question (history_of number known.stored) known.points next
LesserAreDone number reach question (Ends outcome) = Unit {0}

-- a search that ends with a solution ends with one of the least bound
abbrev pub EndsLeast : {T P S N : Type 0} → (N → Val) → Reach → Question → Round T P S N → Type 0
EndsLeast number reach question (Goes known banks next) = Unit {0}
EndsLeast number reach question (Ends outcome) = FindsLeast number reach question outcome
