-- All bodies of one size together.
use Rattle.std.specs.Prelude.{ℕ, ◌+◌, ◌≡◌, ◌≤◌, List, [], ◌∷◌, ◌++◌, slice_get, Some, length, All}
use Rattle.sy_terms.specs.Values.{Val}
use Rattle.sy_terms.specs.Expr.{Expr}
use Rattle.sy_terms.specs.Fitting.{Scope}
use Rattle.sy_terms.specs.Meaning.{functions}
use Rattle.sy_grammar_base.specs.Trees.{Tree, Derives, tree_size}
use Rattle.sy_grammar_base.specs.Questions.{Goal, Question}
use Rattle.sy_points.specs.Asked.{Asked, of_function}
use Rattle.sy_bank_level.specs.Banks.{Entry, Merged, IsHonestBank, IsKept, kept_at}
use Rattle.sy_bank_level.specs.Columns.{HasRow}
use Rattle.sy_bank_level.specs.Covering.{terms}
use Rattle.sy_loop_spec.specs.Histories.{Counterexample}
use Rattle.sy_loop_spec.specs.Trials.{IsRefuted}

-- the bank of the function's grammar is honest, over the function's tuples, and its rows are of values that terms fit with
pub record IsHonestOf (scope : Scope) (question : Question) (asked : Asked) (function : ℕ) (bank : Merged) : Type 0 where
  pub goal : Goal
  pub at : slice_get question.goals function ≡ Some goal
  pub over : bank.points ≡ of_function asked function
  pub honest : IsHonestBank goal.grammar (functions question.definitions) question.pool bank
  pub rows : (entry : Entry) → IsKept bank.levels 0 entry → HasRow scope (functions question.definitions) bank.points entry.term entry.row

-- an honest bank for each function to be found
pub record AreHonest (scope : Scope) (question : Question) (asked : Asked) (banks : List Merged) : Type 0 where
  pub each : (function : ℕ) (bank : Merged) → slice_get banks function ≡ Some bank → IsHonestOf scope question asked function bank
  pub all : length banks ≡ length question.goals

-- bodies of the first functions have derivations whose sizes sum to this
abbrev pub BodiesSumTo : List Val → List Goal → List Expr → ℕ → Type 0
BodiesSumTo pool goals [] total = total ≡ 0
BodiesSumTo pool [] (body ∷ bodies) total = ⊥
BodiesSumTo pool (goal ∷ goals) (body ∷ bodies) total =
    (tree : Tree) × (rest : ℕ) × Derives goal.grammar 0 tree body × BodiesSumTo pool goals bodies rest × (total ≡ tree_size goal.grammar pool 0 tree + rest)

-- each of the terms has its row over the tuples of the function of its place
abbrev pub BodiesHaveRows : Scope → Question → Asked → List Entry → Type 0
BodiesHaveRows scope question asked entries =
    (function : ℕ) (entry : Entry) → slice_get entries function ≡ Some entry → HasRow scope (functions question.definitions) (of_function asked function) entry.term entry.row

-- kept terms are bodies of the first functions, and their sizes leave this much of the size
pub record BodiesAreBegun (scope : Scope) (question : Question) (asked : Asked) (size : ℕ) (chosen : List Entry) (rest : ℕ) : Type 0 where
  pub total : ℕ
  pub sum : BodiesSumTo question.pool question.goals (terms chosen) total
  pub within : total + rest ≤ size
  pub rows : BodiesHaveRows scope question asked chosen

-- with each of the kept terms as the next body
abbrev pub AreChoices : Scope → Question → Asked → ℕ → List Entry → List Entry → ℕ → Type 0
AreChoices scope question asked size chosen kept rest = All (λ (entry : Entry). BodiesAreBegun scope question asked size (chosen ++ entry ∷ []) rest) kept

-- kept terms of the banks' start symbols, one of each, whose sizes sum to this
abbrev pub AreKeptBodies : List Merged → List Expr → ℕ → Type 0
AreKeptBodies [] [] total = total ≡ 0
AreKeptBodies [] (body ∷ bodies) total = ⊥
AreKeptBodies (bank ∷ banks) [] total = ⊥
AreKeptBodies (bank ∷ banks) (body ∷ bodies) total =
    (size rest place : ℕ) × (entry : Entry) × (slice_get (kept_at bank.levels 0 size) place ≡ Some entry) × (entry.term ≡ body) × AreKeptBodies banks bodies rest × (size + rest ≡ total)

-- the bodies that begin with these, and go on with kept terms of the banks whose sizes sum to this, are refuted
pub record AllAreRefuted (question : Question) (history : List Counterexample) (asked : Asked) (chosen : List Expr) (banks : List Merged) (total : ℕ) : Type 0 where
  pub each : (bodies : List Expr) → AreKeptBodies banks bodies total → IsRefuted question history asked (chosen ++ bodies)
