-- The examples of a number: arguments that look random, each with the value that a function of two cases has there.
use Rattle.std.specs.Prelude.{ℕ, zero, suc, ◌+◌, ◌-◌, ◌*◌, ◌/◌, ◌%◌, ◌^◌, nat_lt, List, map, if◌then◌else◌}
use Rattle.std.specs.List.{range_with_len}
use Rattle.sygus_drills.specs.declared.generator.Example.{Example}

-- the states of a congruential generator, which begins with the number
abbrev pub next_state : ℕ → ℕ
next_state state = (state * 6364136223846793005 + 1442695040888963407) % 2 ^ 64

unfoldable pub state_at : ℕ → ℕ → ℕ
state_at number zero = number
state_at number (suc i) = next_state (state_at number i)

-- below the number, as it is modulo 256, the complement of the argument; from there on one more than the argument
abbrev pub value_at : ℕ → ℕ → ℕ
value_at number argument = if nat_lt argument (number % 256) then 255 - argument else (argument + 1) % 256

-- the argument is the first byte of a state
abbrev pub example_of : ℕ → ℕ → Example
example_of number state = record { argument = state / 2 ^ 56; value = value_at number (state / 2 ^ 56) }

-- the examples of the states 1 to 1000
unfoldable pub examples : ℕ → List Example
examples number = map (λ i. example_of number (state_at number i)) (range_with_len 1 1000)
