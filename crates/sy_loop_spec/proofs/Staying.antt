-- What holds after a history holds after a longer one.
use Rattle.std.specs.Prelude.{ℕ, List, ◌≤◌, ◌⊎◌}
use Rattle.std.proofs.Common.{arith, ⊎_elim, inl, inr}
use Rattle.std.proofs.lemmas.List.Elements.{All-weaker}
use Rattle.sy_terms.specs.Values.{Val}
use Rattle.sy_terms.specs.Expr.{Expr}
use Rattle.sy_grammar_base.specs.Questions.{Question}
use Rattle.sy_grammar_base.specs.Solving.{AreWithin}
use Rattle.sy_loop_spec.specs.Bounds.{InBound}
use Rattle.sy_loop_spec.specs.declared.reach.Reach.{Reach}
use Rattle.sy_loop_spec.specs.declared.reach.Reach.TheVariants.{Sizes, Joins}
use Rattle.sy_loop_spec.specs.Histories.{Counterexample, IsViolatedIn, AreViolatedBelow, IsOpenNumber, IsMet, IsFewJoined, MayTry, IsCandidate, HistoryIsKept}

-- bodies that are in bound by their sizes
pub in_bound : (reach : Reach) (question : Question) (n : ℕ) (bodies : List Expr) → AreWithin question.pool n question.goals bodies → InBound reach question n bodies
in_bound Sizes question n bodies within = within
in_bound Joins question n bodies within = inl within

pub may_try : (reach : Reach) (question : Question) (size : ℕ) (history : List Counterexample) (n : ℕ) (bodies : List Expr) → AreWithin question.pool n question.goals bodies → MayTry reach question size history n bodies
may_try Sizes question size history n bodies within = within
may_try Joins question size history n bodies within = inl within

-- what may be tried is in bound
pub tried_in_bound : (reach : Reach) (question : Question) (size : ℕ) (history : List Counterexample) (n : ℕ) (bodies : List Expr) → MayTry reach question size history n bodies → InBound reach question n bodies
tried_in_bound Sizes question size history n bodies may = may
tried_in_bound Joins question size history n bodies may =
    ⊎_elim (λ (within : AreWithin question.pool n question.goals bodies). inl within) (λ (few : IsFewJoined Joins question size history n bodies). inr few.joined) may

-- a lesser number is open too
below_down : (reach : Reach) (question : Question) (history : List Counterexample) (m n : ℕ) → m ≤ n → AreViolatedBelow reach question history n → AreViolatedBelow reach question history m
below_down reach question history m n less below = λ k under. below k (omega (arith, less, under))

pub open_down : (reach : Reach) (question : Question) (size : ℕ) (history : List Counterexample) (m n : ℕ) → m ≤ n → IsOpenNumber reach question size history n → IsOpenNumber reach question size history m
open_down reach question size history m n less is = record { within = omega (arith, less, is.within); below = below_down reach question history m n less is.below }

module _ (question : Question) (history history' : List Counterexample) (keeps : HistoryIsKept history history') where
  pub violated_stays : (bodies : List Expr) → IsViolatedIn question history bodies → IsViolatedIn question history' bodies
  violated_stays bodies is = record { counterexample = is.counterexample; stored = keeps is.counterexample is.stored; violates = is.violates }

  pub below_stays : (reach : Reach) (n : ℕ) → AreViolatedBelow reach question history n → AreViolatedBelow reach question history' n
  below_stays reach n below = λ m less bodies bound. violated_stays bodies (below m less bodies bound)

  pub open_stays : (reach : Reach) (size n : ℕ) → IsOpenNumber reach question size history n → IsOpenNumber reach question size history' n
  open_stays reach size n is = record { within = is.within; below = below_stays reach n is.below }

  pub met_stays : (reach : Reach) (size function : ℕ) (tuple : List Val) → IsMet reach question size history function tuple → IsMet reach question size history' function tuple
  met_stays reach size function tuple is = record {
    number = is.number;
    number_open = open_stays reach size is.number is.number_open;
    bodies = is.bodies;
    bound = is.bound;
    counterexample = is.counterexample;
    stored = keeps is.counterexample is.stored;
    asks = is.asks;
  }

  few_stays : (reach : Reach) (size n : ℕ) (bodies : List Expr) → IsFewJoined reach question size history n bodies → IsFewJoined reach question size history' n bodies
  few_stays reach size n bodies is = record {
    joined = is.joined;
    tuples = is.tuples;
    distinct = is.distinct;
    met = All-weaker (IsMet reach question size history 0) (IsMet reach question size history' 0) (λ tuple met. met_stays reach size 0 tuple met) is.tuples is.met;
    few = is.few;
  }

  try_stays : (reach : Reach) (size n : ℕ) (bodies : List Expr) → MayTry reach question size history n bodies → MayTry reach question size history' n bodies
  try_stays Sizes size n bodies may = may
  try_stays Joins size n bodies may =
      ⊎_elim (λ (within : AreWithin question.pool n question.goals bodies). inl within) (λ (few : IsFewJoined Joins question size history n bodies). inr (few_stays Joins size n bodies few)) may

  pub candidate_stays : (reach : Reach) (size : ℕ) (bodies : List Expr) → IsCandidate reach question size history bodies → IsCandidate reach question size history' bodies
  candidate_stays reach size bodies is = record {
    number = is.number;
    number_open = open_stays reach size is.number is.number_open;
    by = try_stays reach size is.number bodies is.by;
  }
