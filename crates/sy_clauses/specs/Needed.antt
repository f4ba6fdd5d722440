-- The lines of a log that its last one needs, as a mark for each line.
use Rattle.std.specs.Prelude.{◌≡◌, ℕ, ◌+◌, ◌<◌, ◌≤◌, ◌⊎◌, Bool, true, false, List, length, slice_get, slice_index_or, Some}
use Rattle.sy_clauses.specs.declared.Line.{Line}
use Rattle.sy_clauses.specs.Names.{names}

-- whether the line at a place is marked
abbrev pub needs : List Bool → ℕ → Bool
needs needed place = slice_index_or needed place false

-- a place before this one, whose number is one of these
pub record IsEarlierNamed (formula place : ℕ) (numbers : ℕ → Bool) (earlier : ℕ) : Type 0 where
  pub is_earlier : earlier < place
  pub named : numbers (formula + earlier) ≡ true

-- a marked line, at this place or behind it, names an earlier one
pub record IsNeededBy (formula : ℕ) (lines : List Line) (needs : ℕ → Bool) (from earlier : ℕ) : Type 0 where
  pub later : ℕ
  pub line : Line
  pub is_from : from ≤ later
  pub is : slice_get lines later ≡ Some line
  pub needed : needs later ≡ true
  pub named : IsEarlierNamed formula later (names line) earlier

-- The last line is marked, and so is each earlier one that a marked line from this place on names. No other is.
pub record AreNeededFrom (formula : ℕ) (lines : List Line) (from : ℕ) (needs : ℕ → Bool) : Type 0 where
  pub last : (place : ℕ) → place + 1 ≡ length lines → needs place ≡ true
  pub all : (place earlier : ℕ) (line : Line) → from ≤ place → slice_get lines place ≡ Some line →
      needs place ≡ true → IsEarlierNamed formula place (names line) earlier → needs earlier ≡ true
  pub only : (place : ℕ) → needs place ≡ true →
      (place + 1 ≡ length lines) ⊎ IsNeededBy formula lines needs from place

abbrev pub AreNeeded : ℕ → List Line → (ℕ → Bool) → Type 0
AreNeeded formula lines needs = AreNeededFrom formula lines 0 needs

-- these places are marked, and no other mark changed
pub record IsMarked (At : ℕ → Type 0) (before after : List Bool) : Type 0 where
  pub long : length after ≡ length before
  pub kept : (place : ℕ) → needs before place ≡ true → needs after place ≡ true
  pub added : (place : ℕ) → place < length before → At place → needs after place ≡ true
  pub only : (place : ℕ) → needs after place ≡ true → (needs before place ≡ true) ⊎ At place
