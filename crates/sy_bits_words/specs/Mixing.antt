-- Keys from numbers.
use Rattle.std.specs.Prelude.{ℕ, ◌+◌, ◌*◌, ◌%◌, ◌^◌}

-- a number for two numbers
abbrev pub mixed_number : ℕ → ℕ → ℕ
mixed_number key code = ((key * 11400714819323198485) % 2 ^ 64 + code) % 2 ^ 64
