-- What is kept in few bytes: a variable's value, a literal, and the pair that a clause watches.
use Rattle.std.specs.Prelude.{ℕ, ◌/◌, ◌%◌, Bool, true, false, ◌==◌, if◌then◌else◌, Option, Some, None}
use Rattle.sy_clauses.specs.declared.Lit.{Lit}
use Rattle.sy_cdcl_literals.specs.declared.outcomes.Pair.{Pair}

-- 0 is false, 1 true, and any other number no value
abbrev pub value_of : ℕ → Option Bool
value_of code = if code == 0 then Some false else (if code == 1 then Some true else None)

-- the variable twice, and one more where the literal is positive
abbrev pub literal_of : ℕ → Lit
literal_of number = record { var = number / 2; positive = number % 2 == 1 }

-- the pair of these two literals, where there is one
abbrev pub pair_if : Bool → ℕ → Bool → ℕ → Bool → Option Pair
pair_if there v s w t =
    if there then Some record { first = record { var = v; positive = s }; second = record { var = w; positive = t } } else None
