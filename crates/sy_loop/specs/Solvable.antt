-- What a search answers where some bodies in bound solve the problem.
use Rattle.std.specs.Prelude.{ℕ, List}
use Rattle.sy_terms.specs.Expr.{Expr}
use Rattle.sy_terms.specs.declared.theory.Theory.{Ghosts as TheoryOf}
use Rattle.sy_grammar_base.specs.Questions.{Question, question_of}
use Rattle.sy_grammar_base.specs.Solving.{Solves}
use Rattle.sy_grammar_base.specs.declared.problem.Problem.{Problem}
use Rattle.sy_query_limits.specs.declared.Limits.{Limits}
use Rattle.sy_loop_spec.specs.Bounds.{InBound}
use Rattle.sy_loop_spec.specs.declared.reach.Reach.{Reach}
use Rattle.sy_loop_spec.specs.declared.outcome.FailCause.TheVariants.{Size, Rounds, Points, Bank, Weight, Decide, Range}
use Rattle.sy_loop_spec.specs.declared.outcome.Outcome.{Outcome}
use Rattle.sy_loop_spec.specs.declared.outcome.Outcome.TheVariants.{Found, Infeasible, Fail}

-- some bodies in bound n solve the problem
pub record IsSolvable (reach : Reach) (question : Question) (n : ℕ) : Type 0 where
  pub bodies : List Expr
  pub bound : InBound reach question n bodies
  pub solves : Solves question bodies

-- bodies are found, or the search ended by a limit other than the bound
abbrev pub IsFoundOrLimited : {T P S N : Type 0} → Outcome T P S N → Type 0
IsFoundOrLimited (Found bodies proof) = Unit {0}
IsFoundOrLimited Infeasible = ⊥
IsFoundOrLimited (Fail Size) = ⊥
IsFoundOrLimited (Fail (Rounds stored)) = Unit {0}
IsFoundOrLimited (Fail (Points stored function bodies assignment tuples)) = Unit {0}
IsFoundOrLimited (Fail (Bank stored function bank nonterminal next)) = Unit {0}
IsFoundOrLimited (Fail (Weight stored bodies)) = Unit {0}
IsFoundOrLimited (Fail (Decide stored bodies spent)) = Unit {0}
IsFoundOrLimited (Fail (Range stored left)) = Unit {0}

-- so it is where some bodies in bound solve the problem
abbrev pub IsComplete : {T P S N : Type 0} → Reach → Question → ℕ → Outcome T P S N → Type 0
IsComplete reach question n outcome = IsSolvable reach question n → IsFoundOrLimited outcome

-- the same of a problem, for a theory
abbrev pub IsCompleteFor : {T N P S : Type 0} → TheoryOf T N → Reach → Problem T N → Limits → Outcome T P S N → Type 0
IsCompleteFor theory reach problem limits = IsComplete reach (question_of theory.denotes problem) limits.size
