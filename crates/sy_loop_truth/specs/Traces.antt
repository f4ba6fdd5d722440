-- What candidates ask at assignments.
use Rattle.std.specs.Prelude.{ℕ, ◌≡◌, ◌<◌, ◌≤◌, ◌⊎◌, ◌++◌, List, Option, Some, None, All, Contains, length, slice_get}
use Rattle.sy_terms.specs.Values.{Val}
use Rattle.sy_terms.specs.Expr.{Expr}
use Rattle.sy_grammar_base.specs.Questions.{Question}
use Rattle.sy_grammar_base.specs.Solving.{Meets}
use Rattle.sy_meaning.specs.Calls.{IsCallOf}
use Rattle.sy_points.specs.Asked.{Asked, of_function}
use Rattle.sy_loop_spec.specs.Histories.{Counterexample, trace}
use Rattle.sy_loop_spec.specs.Adding.{IsAsked, AreAsked, room}
use Rattle.sy_loop_spec.specs.Truths.{OneLeaves}
use Rattle.sy_loop_truth.specs.declared.calls.Adding.{Adding}
use Rattle.sy_loop_truth.specs.declared.calls.Adding.TheVariants.{There, New, Full}
use Rattle.sy_grammar_base.specs.Fits.{wanted_of}

-- the calls are those of the bodies' trace at the values, and each is at values that its function takes
pub record AreCalls (question : Question) (bodies : List Expr) (values : List Val) (calls : List (ℕ × List Val)) : Type 0 where
  pub all : (call : ℕ × List Val) → Contains (trace question bodies values) call → Contains calls call
  pub only : (call : ℕ × List Val) → Contains calls call → Contains (trace question bodies values) call
  pub taken : All (IsCallOf (wanted_of question)) calls

-- the answer at values of the variables
abbrev pub Calls : Question → List Expr → List Val → Option (List (ℕ × List Val)) → Type 0
Calls question bodies values (Some calls) = AreCalls question bodies values calls
Calls question bodies values None = OneLeaves question bodies values question.constraints

-- at an assignment of the history the bodies ask the function for the tuple
pub record IsAskedBy (question : Question) (history : List Counterexample) (bodies : List Expr) (function : ℕ) (tuple : List Val) : Type 0 where
  pub counterexample : Counterexample
  pub stored : Contains history counterexample
  pub asks : Contains (trace question bodies counterexample.assignment) (function, tuple)

-- each function has the tuples that it had, and others that the bodies ask for at assignments of the history alone
pub record Widens (question : Question) (history : List Counterexample) (bodies : List Expr) (before after : Asked) : Type 0 where
  pub keeps : (function : ℕ) (tuple : List Val) → IsAsked before function tuple → IsAsked after function tuple
  pub only : (function : ℕ) (tuple : List Val) → IsAsked after function tuple → IsAsked before function tuple ⊎ IsAskedBy question history bodies function tuple
  pub less : room after ≤ room before

-- each function has the tuples that it had
pub record TuplesGrow (before after : Asked) : Type 0 where
  pub keeps : (function : ℕ) (tuple : List Val) → IsAsked before function tuple → IsAsked after function tuple
  pub less : room after ≤ room before

-- the bodies meet the problem at each assignment of the history
abbrev pub MeetAll : Question → List Counterexample → List Expr → Type 0
MeetAll question history bodies = All (λ (c : Counterexample). Meets question bodies c.assignment) history

-- each tuple of the bodies' trace at the values is one of its function's
abbrev pub IsTraced : Question → Asked → List Expr → List Val → Type 0
IsTraced question asked bodies values = AreAsked (trace question bodies values) asked

-- the same at each assignment of a history
abbrev pub AreTraced : Question → List Counterexample → Asked → List Expr → Type 0
AreTraced question history asked bodies = All (λ (c : Counterexample). IsTraced question asked bodies c.assignment) history

-- the same at the assignment of this place
pub record IsTracedAt (question : Question) (history : List Counterexample) (asked : Asked) (bodies : List Expr) (place : ℕ) : Type 0 where
  pub counterexample : Counterexample
  pub at : slice_get history place ≡ Some counterexample
  pub there : IsTraced question asked bodies counterexample.assignment

-- at the history's assignment of this place the bodies ask the function for one tuple more than it may have
pub record AsksMore (question : Question) (history : List Counterexample) (asked : Asked) (bodies : List Expr) (function place : ℕ) : Type 0 where
  pub counterexample : Counterexample
  pub at : slice_get history place ≡ Some counterexample
  pub tuple : List Val
  pub asks : Contains (trace question bodies counterexample.assignment) (function, tuple)
  pub within : function < length asked.tuples
  pub new : IsAsked asked function tuple → ⊥
  pub full : asked.limit ≤ length (of_function asked function)

-- at the history's assignment of this place an assumption or a constraint leaves the range
pub record LeavesRangeAt (question : Question) (history : List Counterexample) (bodies : List Expr) (place : ℕ) : Type 0 where
  pub counterexample : Counterexample
  pub at : slice_get history place ≡ Some counterexample
  pub leaves : OneLeaves question bodies counterexample.assignment (question.assumptions ++ question.constraints)

-- the answer at the history's assignment of this place
abbrev pub AsksAt : Question → List Counterexample → List Expr → ℕ → Asked → Asked → Option Adding → Type 0
AsksAt question history bodies place before after (Some There) = IsTracedAt question history after bodies place × (after ≡ before)
AsksAt question history bodies place before after (Some New) = IsTracedAt question history after bodies place × (room after < room before)
AsksAt question history bodies place before after (Some (Full function)) = AsksMore question history after bodies function place
AsksAt question history bodies place before after None = LeavesRangeAt question history bodies place
