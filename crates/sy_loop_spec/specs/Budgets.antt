-- What shows that a search met a budget. The number of rounds is met as soon as there are so many: where it is another
-- budget, there were fewer.
use Rattle.std.specs.Prelude.{ℕ, Bool, false, List, [], ◌++◌, ◌≡◌, ◌<◌, ◌+◌, length, map, slice_get, Some, None, All, Contains}
use Rattle.sy_terms.specs.Values.{Val}
use Rattle.sy_terms.specs.Expr.{Expr}
use Rattle.sy_terms.specs.Meaning.{function_from, functions, computable}
use Rattle.sy_terms.specs.declared.op.Op.{Op}
use Rattle.sy_grammar_base.specs.Trees.{Tree, Derives, tree_size}
use Rattle.sy_grammar_base.specs.Questions.{Goal, Question}
use Rattle.sy_query_base.specs.Queries.{violating}
use Rattle.sy_points.specs.Asked.{AreDistinct}
use Rattle.sy_bank_level.specs.Banks as banks
use Rattle.sy_bank_level.specs.Banks.{Entry, Merged, IsNewEntry, kept_count}
use Rattle.sy_query_limits.specs.declared.FailName.{FailName}
use Rattle.sy_query_limits.specs.declared.Limits.{Limits}
use Rattle.sy_query_base.specs.Asked.{Query, query_weight}
use Rattle.sy_loop_spec.specs.declared.reach.Reach.{Reach}
use Rattle.sy_loop_spec.specs.Histories.{Counterexample, IsCandidate, IsDue, IsHonestHistory, IsMet, IsOpenNumber, trace}

-- as many rounds as there may be
pub record RoundsMet (reach : Reach) (question : Question) (size rounds : ℕ) (history : List Counterexample) : Type 0 where
  pub honest : IsHonestHistory reach question size rounds history
  pub all : length history ≡ rounds

-- the function has as many tuples as it may, and a candidate asks for one more at an assignment of the history
pub record PointsMet (reach : Reach) (question : Question) (size rounds points : ℕ) (history : List Counterexample) (function : ℕ) (bodies : List Expr)
    (assignment : List Val) (tuples : List (List Val)) : Type 0 where
  pub honest : IsHonestHistory reach question size rounds history
  pub room : length history < rounds
  pub distinct : AreDistinct tuples
  pub met : All (IsMet reach question size history function) tuples
  pub all : length tuples ≡ points
  pub candidate : IsCandidate reach question size history bodies
  pub stored : (c : Counterexample) × Contains history c × (c.assignment ≡ assignment)
  pub more : (tuple : List Val) × Contains (trace question bodies assignment) (function, tuple) × (Contains tuples tuple → ⊥)

-- bodies that are due have a query that weighs more than it may
pub record WeightMet (owned : Op → Bool) (reach : Reach) (question : Question) (size rounds limit : ℕ) (history : List Counterexample) (bodies : List Expr) : Type 0 where
  pub honest : IsHonestHistory reach question size rounds history
  pub room : length history < rounds
  pub due : IsDue reach question size history bodies
  pub heavy : limit < query_weight owned (violating question bodies)

-- a value on the way to the term doesn't fit, where the functions to be found have these bodies
abbrev pub LeavesRange : Question → List Expr → List Val → Expr → Type 0
LeavesRange question bodies values term =
    computable (functions question.definitions) (map (function_from (functions question.definitions)) bodies) values term ≡ false

-- a candidate makes an assumption or a constraint leave the range at an assignment of the history
pub record CheckedLeaves (reach : Reach) (question : Question) (size rounds : ℕ) (history : List Counterexample) (bodies : List Expr) (assignment : List Val) : Type 0 where
  pub honest : IsHonestHistory reach question size rounds history
  pub room : length history < rounds
  pub candidate : IsCandidate reach question size history bodies
  pub stored : (c : Counterexample) × Contains history c × (c.assignment ≡ assignment)
  pub term : Expr
  pub asked : Contains (question.assumptions ++ question.constraints) term
  pub leaves : LeavesRange question bodies assignment term

-- a term that a nonterminal of the function derives by a derivation of an open size leaves the range at a tuple that was met
pub record MemberLeaves (reach : Reach) (question : Question) (size rounds : ℕ) (history : List Counterexample) (function : ℕ) (term : Expr) (tuple : List Val) : Type 0 where
  pub honest : IsHonestHistory reach question size rounds history
  pub room : length history < rounds
  pub goal : Goal
  pub at : slice_get question.goals function ≡ Some goal
  pub nonterminal : ℕ
  pub tree : Tree
  pub derives : Derives goal.grammar nonterminal tree term
  pub size_open : IsOpenNumber reach question size history (tree_size goal.grammar question.pool nonterminal tree)
  pub met : IsMet reach question size history function tuple
  pub leaves : LeavesRange question [] tuple term

-- the bank of the function, up to an open size and over tuples that were met, has as many kept terms as it may and dropped
-- none, and one more is new
pub record BankMet (reach : Reach) (question : Question) (size rounds limit : ℕ) (history : List Counterexample) (function : ℕ) (bank : Merged) (nonterminal : ℕ) (next : Entry) : Type 0 where
  pub honest : IsHonestHistory reach question size rounds history
  pub room : length history < rounds
  pub goal : Goal
  pub at : slice_get question.goals function ≡ Some goal
  pub sound : banks.IsHonestBank goal.grammar (functions question.definitions) question.pool bank
  pub size_open : IsOpenNumber reach question size history bank.upto
  pub met : All (IsMet reach question size history function) bank.points
  pub all : kept_count bank.levels ≡ limit
  pub none : bank.dropped ≡ None
  pub new : IsNewEntry goal.grammar (functions question.definitions) question.pool bank nonterminal next

-- bodies that are due have a query on which a solver's budget ran out
pub record DecideMet {S : Type 0} (budget : S → FailName) (shows : Query → Limits → FailName → S → Type 0) (reach : Reach) (question : Question) (limits : Limits)
    (history : List Counterexample) (bodies : List Expr) (spent : S) : Type 0 where
  pub honest : IsHonestHistory reach question limits.size limits.rounds history
  pub room : length history < limits.rounds
  pub due : IsDue reach question limits.size history bodies
  pub shown : shows (violating question bodies) limits (budget spent) spent
