-- Histories of a search: which numbers are open after them, which bodies it may try, what refutes these, and what they ask.
use Rattle.std.specs.Prelude.{ℕ, List, [], ◌∷◌, ◌++◌, ◌≡◌, ◌≤◌, ◌<◌, ◌⊎◌, length, map, take, slice_get, Some, All, Contains}
use Rattle.sy_terms.specs.Values.{Val}
use Rattle.sy_terms.specs.Expr.{Expr}
use Rattle.sy_terms.specs.Meaning.{Function, function_from, functions, asked}
use Rattle.sy_grammar_base.specs.Questions.{Question}
use Rattle.sy_grammar_base.specs.Solving.{AreValues, AreWithin, Meets}
use Rattle.sy_query_base.specs.Queries.{Violates}
use Rattle.sy_points.specs.Asked.{AreDistinct}
use Rattle.sy_loop_spec.specs.Bounds.{InBound, IsJoinedWithin}
use Rattle.sy_loop_spec.specs.Conditional.{leaves}
use Rattle.sy_loop_spec.specs.declared.reach.Reach.{Reach}
use Rattle.sy_loop_spec.specs.declared.reach.Reach.TheVariants.{Sizes, Joins}

-- values of the variables, and the bodies that violate the problem there
pub record Counterexample : Type 0 where
  pub assignment : List Val
  pub bodies : List Expr

abbrev pub all_asked_by : List Function → List Function → List Val → List Expr → List (ℕ × List Val)
all_asked_by defined wanted values [] = []
all_asked_by defined wanted values (term ∷ terms) = asked defined wanted values term ++ all_asked_by defined wanted values terms

-- the trace of bodies at an assignment: the tuples that the constraints ask of each function there
abbrev pub trace : Question → List Expr → List Val → List (ℕ × List Val)
trace question bodies values =
    all_asked_by (functions question.definitions) (map (function_from (functions question.definitions)) bodies) values question.constraints

-- the second history has each counterexample of the first
abbrev pub HistoryIsKept : List Counterexample → List Counterexample → Type 0
HistoryIsKept history history' = (counterexample : Counterexample) → Contains history counterexample → Contains history' counterexample

-- the bodies violate the problem at an assignment of the history
pub record IsViolatedIn (question : Question) (history : List Counterexample) (bodies : List Expr) : Type 0 where
  pub counterexample : Counterexample
  pub stored : Contains history counterexample
  pub violates : Violates question bodies counterexample.assignment

-- so do all bodies in bound n
abbrev pub AllViolate : Reach → Question → List Counterexample → ℕ → Type 0
AllViolate reach question history n = (bodies : List Expr) → InBound reach question n bodies → IsViolatedIn question history bodies

-- so do all bodies in a lesser bound
abbrev pub AreViolatedBelow : Reach → Question → List Counterexample → ℕ → Type 0
AreViolatedBelow reach question history n = (m : ℕ) → m < n → AllViolate reach question history m

-- the number is open: it is at most `size`, and all bodies in a lesser bound are refuted
pub record IsOpenNumber (reach : Reach) (question : Question) (size : ℕ) (history : List Counterexample) (n : ℕ) : Type 0 where
  pub within : n ≤ size
  pub below : AreViolatedBelow reach question history n

-- the trace of some bodies in an open bound, at an assignment of the history, has the tuple of the function
pub record IsMet (reach : Reach) (question : Question) (size : ℕ) (history : List Counterexample) (function : ℕ) (tuple : List Val) : Type 0 where
  pub number : ℕ
  pub number_open : IsOpenNumber reach question size history number
  pub bodies : List Expr
  pub bound : InBound reach question number bodies
  pub counterexample : Counterexample
  pub stored : Contains history counterexample
  pub asks : Contains (trace question bodies counterexample.assignment) (function, tuple)

-- the body is a conditional tree in bound n, of at most as many leaves as tuples were met
pub record IsFewJoined (reach : Reach) (question : Question) (size : ℕ) (history : List Counterexample) (n : ℕ) (bodies : List Expr) : Type 0 where
  pub joined : IsJoinedWithin question n bodies
  pub tuples : List (List Val)
  pub distinct : AreDistinct tuples
  pub met : All (IsMet reach question size history 0) tuples
  pub few : leaves joined.parts ≤ length tuples

-- bodies that a search of this reach may try within n
abbrev pub MayTry : Reach → Question → ℕ → List Counterexample → ℕ → List Expr → Type 0
MayTry Sizes question size history n bodies = AreWithin question.pool n question.goals bodies
MayTry Joins question size history n bodies = AreWithin question.pool n question.goals bodies ⊎ IsFewJoined Joins question size history n bodies

-- the bodies are a candidate: they may be tried within an open number
pub record IsCandidate (reach : Reach) (question : Question) (size : ℕ) (history : List Counterexample) (bodies : List Expr) : Type 0 where
  pub number : ℕ
  pub number_open : IsOpenNumber reach question size history number
  pub by : MayTry reach question size history number bodies

-- a candidate that meets the problem at each assignment of the history
pub record IsDue (reach : Reach) (question : Question) (size : ℕ) (history : List Counterexample) (bodies : List Expr) : Type 0 where
  pub candidate : IsCandidate reach question size history bodies
  pub meets : All (λ (c : Counterexample). Meets question bodies c.assignment) history

-- a counterexample to bodies that were due
pub record IsNextCounterexample (reach : Reach) (question : Question) (size : ℕ) (history : List Counterexample) (counterexample : Counterexample) : Type 0 where
  pub values : AreValues question.variables counterexample.assignment
  pub due : IsDue reach question size history counterexample.bodies
  pub violates : Violates question counterexample.bodies counterexample.assignment

-- at most so many counterexamples, each next after those before it
pub record IsHonestHistory (reach : Reach) (question : Question) (size rounds : ℕ) (history : List Counterexample) : Type 0 where
  pub few : length history ≤ rounds
  pub each : (place : ℕ) (counterexample : Counterexample) → slice_get history place ≡ Some counterexample →
      IsNextCounterexample reach question size (take place history) counterexample
