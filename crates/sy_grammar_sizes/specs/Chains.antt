-- Chain rules: rules that are one nonterminal alone.
use Rattle.std.specs.Prelude.{ℕ, List, [], ◌∷◌, ◌≡◌, ◌<◌, ◌↔◌, length, slice_get, Some}
use Rattle.sy_grammar_base.specs.Patterns.{Occurrence}
use Rattle.sy_grammar_base.specs.Trees.{Syntax, Template, rule_at}

-- a chain rule of the one nonterminal is the other
abbrev pub IsChain : Syntax → ℕ → ℕ → Type 0
IsChain syntax from to = (rule : ℕ) × (rule_at syntax from rule ≡ Some (Template (Occurrence to)))

-- chain rules lead from the one nonterminal to the other, by way of these
abbrev pub IsChainBy : Syntax → ℕ → List ℕ → ℕ → Type 0
IsChainBy syntax from [] to = from ≡ to
IsChainBy syntax from (next ∷ steps) to = IsChain syntax from next × IsChainBy syntax next steps to

-- chain rules lead from the one nonterminal to the other, in any number of steps, none included
abbrev pub Reaches : Syntax → ℕ → ℕ → Type 0
Reaches syntax from to = (steps : List ℕ) × IsChainBy syntax from steps to

-- each number is below the next ones
abbrev pub IsAscending : List ℕ → Type 0
IsAscending numbers = (i j m n : ℕ) → i < j → slice_get numbers i ≡ Some m → slice_get numbers j ≡ Some n → m < n

-- the number stands in the list
abbrev pub IsListed : ℕ → List ℕ → Type 0
IsListed number numbers = (i : ℕ) × (slice_get numbers i ≡ Some number)

-- the nonterminals that chain rules reach, ascending
pub record IsClosure (syntax : Syntax) (from : ℕ) (reached : List ℕ) : Type 0 where
  pub ascending : IsAscending reached
  pub whole : (to : ℕ) → IsListed to reached ↔ ((to < length syntax.nonterminals) × Reaches syntax from to)

-- those of each nonterminal
pub record AreClosures (syntax : Syntax) (lists : List (List ℕ)) : Type 0 where
  pub sized : length lists ≡ length syntax.nonterminals
  pub each : (from : ℕ) (reached : List ℕ) → slice_get lists from ≡ Some reached → IsClosure syntax from reached
