-- What is found in a stage is found beyond.
use Rattle.std.proofs.Common.{◌≤◌, ◌-◌, arith, refl, subst, sym, ℕ, List, [], ◌∷◌, map, Option, Some, None, inl, inr}
use Rattle.std.specs.Prelude.{Bool, IfSome, Contains}
use Rattle.std.proofs.Math.Nat.{le-max_right}
use Rattle.sy_terms.specs.Values.{Val}
use Rattle.sy_terms.specs.Expr.{Expr}
use Rattle.sy_terms.specs.Denoted.{expr_of}
use Rattle.sy_terms.specs.declared.op.Op.{Op}
use Rattle.sy_terms.specs.declared.term.Term.{Term}
use Rattle.sy_terms.specs.declared.theory.Theory.{Ghosts as TheoryOf}
use Rattle.sy_grammar_base.specs.Questions.{Goal, Question}
use Rattle.sy_grammar_base.specs.Solving.{AreWithin}
use Rattle.sy_grammar_base.specs.Trees.{tree_size}
use Rattle.sy_grammar_base.specs.declared.problem.Problem.{Problem}
use Rattle.sy_query_limits.specs.declared.FailName.{FailName}
use Rattle.sy_query_limits.specs.declared.Limits.{Limits}
use Rattle.sy_query_base.specs.Asked.{Query}
use Rattle.sy_query_base.specs.declared.decide.Decide.{Ghosts as DecideOf}
use Rattle.sy_loop_bodies.specs.Clauses.{IsFoundFor}
use Rattle.sy_loop_spec.specs.declared.reach.Reach.TheVariants.{Joins}
use Rattle.sy_loop_spec.specs.Right.{CauseHolds, IsRight}
use Rattle.sy_loop_spec.specs.declared.outcome.FailCause.{FailCause}
use Rattle.sy_loop_spec.specs.declared.outcome.Outcome.{Outcome}
use Rattle.sy_loop_spec.specs.declared.outcome.Outcome.TheVariants.{Found, Infeasible, Fail}
use Rattle.sy_loop.specs.Least.{FindsLeast}
use Rattle.sy_loop_stages.specs.Finding.{FindsBeyond, HasStopped}
use Rattle.sy_loop_stages.specs.Searched.{CauseHoldsFor, FindsIn, Lasts, SolvesInFor}
use Rattle.sy_loop_stages.specs.Stages.{lowered, stages, most_beyond}

-- members within a bound are so within a larger one
widened : (pool : List Val) (m n : ℕ) (goals : List Goal) (bodies : List Expr) → m ≤ n
    → AreWithin pool m goals bodies → AreWithin pool n goals bodies
widened pool m n [] [] le is = tt
widened pool m n [] (body ∷ bodies) le is = absurd is
widened pool m n (goal ∷ goals) [] le is = absurd is
widened pool m n (goal ∷ goals) (body ∷ bodies) le is =
    let size = tree_size goal.grammar pool 0 is.0 in
    (is.0, is.1, omega (arith, le, is.2), widened pool (m - size) (n - size) goals bodies (omega (arith, le)) is.3)

-- a search up to no larger sizes than may be found beyond finds none beyond that either
wider : (small size : ℕ) → small ≤ most_beyond size → most_beyond small ≤ most_beyond size
wider small size le = omega (arith, le, le-max_right size 1024)

-- the whole search is a stage, and so is the early one
pub whole_is_stage : (limits : Limits) → Contains (stages limits) limits
whole_is_stage limits = (1, omega arith, refl)

pub early_is_stage : (limits : Limits) → Contains (stages limits) (lowered 1000 2000 500 limits)
early_is_stage limits = (0, omega arith, refl)

module _ {T N P S : Type 0} (owned : Op → Bool) (number : N → Val) (accepted : Query → P → Type 0)
    (budget : S → FailName) (shows : Query → Limits → FailName → S → Type 0) (question : Question) (limits : Limits) where
  -- what is of the least bound is found so
  pub least_beyond : (outcome : Outcome T P S N) → FindsLeast number Joins question outcome
      → FindsBeyond owned number budget shows question limits outcome
  least_beyond (Found bodies proof) least = inl least
  least_beyond Infeasible least = tt
  least_beyond (Fail cause) least = tt

  pub least_in : (outcome : Outcome T P S N) → FindsLeast number Joins question outcome
      → FindsIn owned number budget shows question limits outcome
  least_in (Found bodies proof) least = inl least
  least_in Infeasible least = tt
  least_in (Fail cause) least = tt

  -- after a stage had ended, so is what a search up to no larger sizes than may be finds
  pub found_within : (stage : Limits) (outcome : Outcome T P S N)
      → HasStopped T owned number budget shows question limits → stage.size ≤ most_beyond limits.size
      → FindsIn owned number budget shows question stage outcome
      → FindsBeyond owned number budget shows question limits outcome
  found_within stage (Found bodies proof) stopped le (inl least) = inl least
  found_within stage (Found bodies proof) stopped le (inr after) =
      let terms = map (expr_of number) bodies in
      let most = most_beyond limits.size in
      inr (record {
        stopped = stopped;
        within = widened question.pool (most_beyond stage.size) most question.goals terms
            (wider stage.size limits.size le) after.within;
      })
  found_within stage Infeasible stopped le is = tt
  found_within stage (Fail cause) stopped le is = tt

  -- and what a stage finds
  pub after_stage : (stage : Limits) (outcome : Outcome T P S N) → Contains (stages limits) stage
      → stage.size ≤ most_beyond limits.size → FindsIn owned number budget shows question stage outcome
      → FindsBeyond owned number budget shows question limits outcome
  after_stage stage (Found bodies proof) of le (inl least) = inl least
  after_stage stage (Found bodies proof) of le (inr after) =
      let stopped : HasStopped T owned number budget shows question limits =
      record { stage = stage; of = of; cause = after.cause; holds = after.holds } in
      found_within stage (Found bodies proof) stopped le (inr after)
  after_stage stage Infeasible of le is = tt
  after_stage stage (Fail cause) of le is = tt

  -- an outcome that lasts is right without the limits of an early search
  pub lasting : (bank clauses nodes : ℕ) (outcome : Outcome T P S N) → Lasts outcome
      → IsRight owned number accepted budget shows Joins question (lowered bank clauses nodes limits) outcome
      → IsRight owned number accepted budget shows Joins question limits outcome
  lasting bank clauses nodes (Found bodies proof) lasts right = right
  lasting bank clauses nodes Infeasible lasts right = right
  lasting bank clauses nodes (Fail cause) lasts right =
      let early = lowered bank clauses nodes limits in
      subst (λ (c : FailCause T S N). CauseHolds owned number budget shows Joins question limits c) (sym lasts)
      (subst (λ (c : FailCause T S N). CauseHolds owned number budget shows Joins question early c) lasts right)

  -- the whole search ended
  pub has_stopped : (cause : FailCause T S N) → CauseHolds owned number budget shows Joins question limits cause
      → HasStopped T owned number budget shows question limits
  has_stopped cause holds = record { stage = limits; of = whole_is_stage limits; cause = cause; holds = holds }

module _ {T N D P S : Type 0} (theory : TheoryOf T N) (solver : DecideOf D T P S N)
    (problem : Problem T N) (limits : Limits) where
  -- what solves the problem within the size is answered after the cause
  pub solves_in : (cause : FailCause T S N) (found : Option (List (Term T N) × P))
      → CauseHoldsFor theory solver problem limits cause → IsFoundFor theory solver problem (most_beyond limits.size) found
      → IfSome found (SolvesInFor theory solver problem limits)
  solves_in cause None holds is = tt
  solves_in cause (Some solution) holds is = (is.0, record { cause = cause; holds = holds; within = is.1 })
