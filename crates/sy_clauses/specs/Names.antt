-- The clauses that a line of a log names.
use Rattle.std.specs.Prelude.{◌≡◌, ℕ, ◌+◌, ◌<◌, ◌==◌, Bool, true, false, ◌||◌, List, [], ◌∷◌, length, slice_get, Some}
use Rattle.sy_clauses.specs.declared.Step.{Step}
use Rattle.sy_clauses.specs.declared.Line.{Line}

-- whether one of the steps is by the clause of this number
abbrev pub steps_name : List Step → ℕ → Bool
steps_name [] n = false
steps_name (s ∷ ss) n = s.with == n || steps_name ss n

-- whether the line names the clause of this number
abbrev pub names : Line → ℕ → Bool
names l n = l.first == n || steps_name l.steps n

-- a later line names the line at this place, whose number is behind those of the formula's clauses
pub record IsNamedLater (formula : ℕ) (lines : List Line) (place : ℕ) : Type 0 where
  pub later : ℕ
  pub line : Line
  pub is_later : place < later
  pub is : slice_get lines later ≡ Some line
  pub named : names line (formula + place) ≡ true

-- each line but the last is named by a later one
abbrev pub EachIsNamed : ℕ → List Line → Type 0
EachIsNamed formula lines = (place : ℕ) → place + 1 < length lines → IsNamedLater formula lines place
