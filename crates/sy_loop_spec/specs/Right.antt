-- When the answers of a search are right.
use Rattle.std.specs.Prelude.{Bool, List, map}
use Rattle.sy_terms.specs.Values.{Val}
use Rattle.sy_terms.specs.Denoted.{expr_of, vals_of}
use Rattle.sy_terms.specs.declared.op.Op.{Op}
use Rattle.sy_terms.specs.declared.theory.Theory.{Ghosts as TheoryOf}
use Rattle.sy_grammar_base.specs.Questions.{Question, question_of}
use Rattle.sy_grammar_base.specs.declared.problem.Problem.{Problem}
use Rattle.sy_query_limits.specs.declared.FailName.{FailName}
use Rattle.sy_query_limits.specs.declared.Limits.{Limits}
use Rattle.sy_query_base.specs.Asked.{Query}
use Rattle.sy_query_base.specs.declared.decide.Decide.{Ghosts as DecideOf}
use Rattle.sy_points.specs.Asked.{tuples_of}
use Rattle.sy_points.specs.declared.stored.Stored.{Stored}
use Rattle.sy_bank_level.specs.Stored.{entry_of}
use Rattle.sy_bank_level.specs.Bank.{merged_of}
use Rattle.sy_loop_spec.specs.declared.reach.Reach.{Reach}
use Rattle.sy_loop_spec.specs.Histories.{Counterexample}
use Rattle.sy_loop_spec.specs.Budgets.{RoundsMet, PointsMet, BankMet, WeightMet, DecideMet, CheckedLeaves, MemberLeaves}
use Rattle.sy_query_base.specs.Solutions.{IsSolution}
use Rattle.sy_loop_spec.specs.Stored.{history_of}
use Rattle.sy_loop_spec.specs.Sizes.{AreAtMost}
use Rattle.sy_loop_spec.specs.Unsolved.{NoSolution, NoSolutionWithin}
use Rattle.sy_loop_spec.specs.declared.outcome.LoopRange.{LoopRange}
use Rattle.sy_loop_spec.specs.declared.outcome.LoopRange.TheVariants.{Member, Checked}
use Rattle.sy_loop_spec.specs.declared.outcome.FailCause.{FailCause}
use Rattle.sy_loop_spec.specs.declared.outcome.FailCause.TheVariants.{Size, Rounds, Points, Bank, Weight, Decide, Range}
use Rattle.sy_loop_spec.specs.declared.outcome.Outcome.{Outcome}
use Rattle.sy_loop_spec.specs.declared.outcome.Outcome.TheVariants.{Found, Infeasible, Fail}

-- what left the 128 bits did so
abbrev pub HasLeftRange : {T N : Type 0} → (N → Val) → Reach → Question → Limits → List Counterexample → LoopRange T N → Type 0
HasLeftRange number reach question limits history (Member function term tuple) =
    MemberLeaves reach question limits.size limits.rounds history function (expr_of number term) (vals_of number tuple)
HasLeftRange number reach question limits history (Checked bodies assignment) =
    CheckedLeaves reach question limits.size limits.rounds history (map (expr_of number) bodies) (vals_of number assignment)

-- the cause holds
abbrev pub CauseHolds : {T S N : Type 0} → (Op → Bool) → (N → Val) → (S → FailName) → (Query → Limits → FailName → S → Type 0) → Reach → Question → Limits → FailCause T S N → Type 0
CauseHolds owned number budget shows reach question limits Size = NoSolutionWithin reach question limits.size × (AreAtMost question limits.size → ⊥)
CauseHolds owned number budget shows reach question limits (Rounds stored) = RoundsMet reach question limits.size limits.rounds (history_of number stored)
CauseHolds owned number budget shows reach question limits (Points stored function bodies assignment tuples) =
    PointsMet reach question limits.size limits.rounds limits.points (history_of number stored) function (map (expr_of number) bodies) (vals_of number assignment) (tuples_of number tuples)
CauseHolds owned number budget shows reach question limits (Bank stored function bank nonterminal next) =
    BankMet reach question limits.size limits.rounds limits.bank (history_of number stored) function (merged_of number bank) nonterminal (entry_of number next)
CauseHolds owned number budget shows reach question limits (Weight stored bodies) =
    WeightMet owned reach question limits.size limits.rounds limits.weight (history_of number stored) (map (expr_of number) bodies)
CauseHolds owned number budget shows reach question limits (Decide stored bodies spent) =
    DecideMet budget shows reach question limits (history_of number stored) (map (expr_of number) bodies) spent
CauseHolds owned number budget shows reach question limits (Range stored left) = HasLeftRange number reach question limits (history_of number stored) left

-- a solution with its proof, or nonexistence, where the largest sizes sum to at most the bound, or a cause that holds
abbrev pub IsRight : {T P S N : Type 0} → (Op → Bool) → (N → Val) → (Query → P → Type 0) → (S → FailName) → (Query → Limits → FailName → S → Type 0) → Reach → Question → Limits → Outcome T P S N → Type 0
IsRight owned number accepted budget shows reach question limits (Found bodies proof) = IsSolution accepted question (map (expr_of number) bodies) proof
IsRight owned number accepted budget shows reach question limits Infeasible = NoSolution question × AreAtMost question limits.size
IsRight owned number accepted budget shows reach question limits (Fail cause) = CauseHolds owned number budget shows reach question limits cause

-- the same of a problem, for a theory and a solver
abbrev pub LeavesFor : {T N : Type 0} → TheoryOf T N → Reach → Problem T N → Limits → Stored T N → LoopRange T N → Type 0
LeavesFor theory reach problem limits stored = HasLeftRange theory.denotes reach (question_of theory.denotes problem) limits (history_of theory.denotes stored)

abbrev pub IsRightFor : {T N D P S : Type 0} → TheoryOf T N → DecideOf D T P S N → Reach → Problem T N → Limits → Outcome T P S N → Type 0
IsRightFor theory solver reach problem limits =
    IsRight theory.owned theory.denotes solver.accepted solver.budget solver.shows reach (question_of theory.denotes problem) limits
