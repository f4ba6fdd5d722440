-- The numbers that clauses have once only some lines of a log are left.
use Rattle.std.specs.Prelude.{◌≡◌, ℕ, zero, suc, ◌+◌, ◌-◌, min, map, Bool, if◌then◌else◌, List, [], ◌∷◌, slice_index_or}
use Rattle.sy_clauses.specs.declared.Step.{Step}
use Rattle.sy_clauses.specs.declared.Line.{Line}
use Rattle.sy_clauses.specs.declared.numbering.Numbering.{Numbering}

-- how many of the first lines are left
abbrev pub count_left : (ℕ → Bool) → ℕ → ℕ
count_left left zero = 0
count_left left (suc n) = count_left left n + (if left n then 1 else 0)

-- A clause of the formula keeps its number. A line's is behind them, by as many as are left before the line.
abbrev pub new_number : ℕ → (ℕ → Bool) → ℕ → ℕ
new_number formula left n = min n formula + count_left left (n - formula)

-- the lines that are left, from a place on
abbrev pub lines_left : (ℕ → Bool) → ℕ → List Line → List Line
lines_left left place [] = []
lines_left left place (l ∷ ls) = if left place then
    l ∷ lines_left left (place + 1) ls else lines_left left (place + 1) ls

abbrev pub step_renumbered : (ℕ → ℕ) → Step → Step
step_renumbered number s = record { var = s.var; with = number s.with }

abbrev pub line_renumbered : (ℕ → ℕ) → Line → Line
line_renumbered number l = record { first = number l.first; steps = map (step_renumbered number) l.steps }

-- the number that the table has for the clause of a number
abbrev pub number_in : Numbering → ℕ → ℕ
number_in numbering n =
    min n numbering.formula + slice_index_or numbering.before.items (n - numbering.formula) numbering.all

-- the table's counts are those of the lines that are left
pub record CountsLeft (formula : ℕ) (left : ℕ → Bool) (numbering : Numbering) : Type 0 where
  pub formula_is : numbering.formula ≡ formula
  pub counts : (place : ℕ) → slice_index_or numbering.before.items place numbering.all ≡ count_left left place
