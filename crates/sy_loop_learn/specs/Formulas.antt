-- Which formulas meet conditions on the labels of points.
use Rattle.std.specs.Prelude.{ℕ, ◌/◌, ◌%◌, ◌^◌, ◌==◌, List, Bool, false, ◌<◌, All, Option, Some, None, slice_get}
use Rattle.std.specs.List.{list_all, list_any}
use Rattle.std.specs.Global.{Vec}
use mathlib.Core.Bool.{beq}
use Rattle.sy_loop_learn.specs.declared.labels.Label.{Label}
use Rattle.sy_loop_learn.specs.declared.literal.Literal.{Literal}
use Rattle.sy_loop_learn.specs.declared.row.Row.{Row}

-- a bit of a word, where there is one
abbrev pub bit_of : Option ℕ → ℕ → Bool
bit_of None place = false
bit_of (Some word) place = (word / 2 ^ place) % 2 == 1

-- whether the point is in the row: its bit, of words of 64
abbrev pub has_point : Row → ℕ → Bool
has_point row point = bit_of (slice_get row.words (point / 64)) (point % 64)

-- whether the literal holds at the point, where there is one
abbrev pub holds_at : Option Literal → ℕ → Bool
holds_at None point = false
holds_at (Some literal) point = has_point literal.row point

-- whether one of these literals holds at the point
abbrev pub clause_holds : List Literal → ℕ → List ℕ → Bool
clause_holds literals point clause = list_any (λ number. holds_at (slice_get literals number) point) clause

-- whether each clause holds at the point
abbrev pub formula_holds : List Literal → List (Vec ℕ) → ℕ → Bool
formula_holds literals formula point = list_all (λ clause. clause_holds literals point clause.items) formula

-- whether one of the labels is the formula's at its point
abbrev pub meets : List Literal → List (Vec ℕ) → List Label → Bool
meets literals formula condition =
    list_any (λ label. beq (formula_holds literals formula label.point) label.inside) condition

-- whether one label of each condition is the formula's
abbrev pub meets_all : List Literal → List (Vec Label) → List (Vec ℕ) → Bool
meets_all literals conditions formula = list_all (λ condition. meets literals formula condition.items) conditions

-- the formula has literals of these numbers alone
abbrev pub IsBelow : ℕ → List (Vec ℕ) → Type 0
IsBelow bound formula = All (λ clause. All (λ number. number < bound) clause.items) formula
