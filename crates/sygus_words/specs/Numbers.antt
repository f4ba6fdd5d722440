-- Numbers that options give.
use Rattle.std.specs.Prelude.{◌≡◌, ◌≤◌, ℕ, List, Option, Some, None}
use Rattle.std.specs.Fmt.{decimal}

-- n is the default where the option isn't there, and otherwise the number of which the text is the decimal spelling, from 1 to greatest
abbrev pub LimitIs : ℕ → ℕ → Option (List ℕ) → ℕ → Type 0
LimitIs default greatest None n = n ≡ default
LimitIs default greatest (Some text) n = (text ≡ decimal n) × (1 ≤ n) × (n ≤ greatest)
