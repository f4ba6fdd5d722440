-- Numbers by which gates are found again.
use Rattle.std.specs.Prelude.{ℕ, ◌+◌, ◌*◌, ◌^◌, ◌≡◌, cond, List, slice_get, nat_eq, Option, Some}
use Rattle.std.specs.HashMap.{get}
use Rattle.sy_clauses.specs.declared.Lit.{Lit}
use Rattle.sy_gates.specs.declared.gate.Gate.{Gate}
use Rattle.sy_gates.specs.declared.gate.Gate.TheVariants.{Constant, And, Xor, Choose}
use Rattle.sy_gates.specs.declared.table.Table.{Table}

-- a number for a literal: twice its variable, and 1 more for its negation
abbrev pub literal_key : Lit → ℕ
literal_key l = 2 * l.var + cond l.positive 0 1

-- a number for a gate: what kind it is of, below the numbers of its literals
abbrev pub gate_key : Gate → ℕ
gate_key (Constant b) = 4 * cond b 1 0
gate_key (And a b) = 4 * (literal_key a + 2 ^ 33 * literal_key b) + 1
gate_key (Xor a b) = 4 * (literal_key a + 2 ^ 33 * literal_key b) + 2
gate_key (Choose t a b) = 4 * (literal_key t + 2 ^ 33 * (literal_key a + 2 ^ 33 * literal_key b)) + 3

-- the place that a table has for a gate
abbrev pub place_in : Table → Gate → Option ℕ
place_in table gate = get nat_eq table.places (gate_key gate)

-- each gate of a list is found at its place
abbrev pub FindsAll : Table → List Gate → Type 0
FindsAll table gates = (place : ℕ) (gate : Gate) → slice_get gates place ≡ Some gate → place_in table gate ≡ Some place
