-- Tables of the largest sizes known, and what rules give by them.
use Rattle.std.specs.Prelude.{ℕ, ◌+◌, ◌-◌, List, [], ◌∷◌, ◌≡◌, ◌<◌, ◌≤◌, min, max, length, slice_get, Option, Some, None}
use Rattle.std.specs.Option.{option_map}
use Rattle.sy_terms.specs.Values.{Val}
use Rattle.sy_terms.specs.declared.sort.Sort.{Sort}
use Rattle.sy_grammar_base.specs.Patterns.{Pattern, occurring, own_size}
use Rattle.sy_grammar_base.specs.Trees.{Syntax, Production, Template, EachConstant, EachVariable, rule_at}
use Rattle.sy_grammar_sizes.specs.Constants.{IsConstantSize, IsVariableSize}
use Rattle.sy_grammar_sizes.specs.Greatest.{IsSize}

-- a rule for all of a sort gives a derivation of this size
abbrev pub GivesLeaf : List Sort → List Val → Production → ℕ → Type 0
GivesLeaf arguments pool (Template pattern) size = ⊥
GivesLeaf arguments pool (EachConstant sort) size = IsConstantSize pool sort size
GivesLeaf arguments pool (EachVariable sort) size = IsVariableSize arguments sort size

-- some rule of these does
pub record GivesLeaves (arguments : List Sort) (pool : List Val) (productions : List Production) (size : ℕ) : Type 0 where
  pub rule : ℕ
  pub production : Production
  pub at : slice_get productions rule ≡ Some production
  pub gives : GivesLeaf arguments pool production size

-- the greatest number of a kind, cut off at the limit; none where there is no such number
abbrev pub IsBest : ℕ → (ℕ → Type 0) → Option ℕ → Type 0
IsBest limit Kind None = (size : ℕ) → Kind size → ⊥
IsBest limit Kind (Some best) = ((size : ℕ) × Kind size × (min limit size ≡ best)) × ((size : ℕ) → Kind size → min limit size ≤ best)

abbrev pub larger : Option ℕ → Option ℕ → Option ℕ
larger None second = second
larger (Some m) None = Some m
larger (Some m) (Some n) = Some (max m n)

-- a nonterminal's entry
abbrev pub entry_in_table : Option (Option ℕ) → Option ℕ
entry_in_table None = None
entry_in_table (Some entry) = entry

abbrev pub table_entry : List (Option ℕ) → ℕ → Option ℕ
table_entry table nonterminal = entry_in_table (slice_get table nonterminal)

abbrev pub sizes_plus : Option ℕ → Option ℕ → Option ℕ
sizes_plus None second = None
sizes_plus (Some m) None = None
sizes_plus (Some m) (Some n) = Some (m + n)

-- the sum of the entries; none where one is missing
unfoldable pub entries_total : List (Option ℕ) → List ℕ → Option ℕ
entries_total table [] = Some 0
entries_total table (nonterminal ∷ nonterminals) = sizes_plus (table_entry table nonterminal) (entries_total table nonterminals)

-- so many more than the sum, cut off at the limit
abbrev pub cut : ℕ → ℕ → Option ℕ → Option ℕ
cut limit own sum = option_map (λ n. min limit (own + n)) sum

-- the size that a pattern has by the table
abbrev pub pattern_size : ℕ → List (Option ℕ) → Pattern → Option ℕ
pattern_size limit table pattern = cut limit (own_size pattern) (entries_total table (occurring pattern))

-- the size is larger than the entry
abbrev pub Exceeds : Option ℕ → ℕ → Type 0
Exceeds None size = Unit {0}
Exceeds (Some known) size = known < size

-- one of these rules has a size by the table that is larger than what is known
pub record IsImprovedBy (productions : List Production) (limit : ℕ) (table : List (Option ℕ)) (known : Option ℕ) (size : ℕ) : Type 0 where
  pub rule : ℕ
  pub pattern : Pattern
  pub at : slice_get productions rule ≡ Some (Template pattern)
  pub is : pattern_size limit table pattern ≡ Some size
  pub larger : Exceeds known size

-- a rule of the nonterminal has a size by the table that is larger than the nonterminal's entry
pub record IsImproved (syntax : Syntax) (limit : ℕ) (table : List (Option ℕ)) (nonterminal size : ℕ) : Type 0 where
  pub rule : ℕ
  pub pattern : Pattern
  pub at : rule_at syntax nonterminal rule ≡ Some (Template pattern)
  pub is : pattern_size limit table pattern ≡ Some size
  pub larger : Exceeds (table_entry table nonterminal) size

-- none has
abbrev pub IsStable : Syntax → ℕ → List (Option ℕ) → Type 0
IsStable syntax limit table = (nonterminal size : ℕ) → IsImproved syntax limit table nonterminal size → ⊥

-- each entry is a size, cut off at the limit; and none is below what rules for all of a sort give
pub record IsTable (syntax : Syntax) (pool : List Val) (limit : ℕ) (table : List (Option ℕ)) : Type 0 where
  pub sized : length table ≡ length syntax.nonterminals
  pub sound : (nonterminal best : ℕ) → table_entry table nonterminal ≡ Some best → (size : ℕ) × IsSize syntax pool nonterminal size × (min limit size ≡ best)
  pub leaves : (nonterminal rule : ℕ) (production : Production) (size : ℕ) → rule_at syntax nonterminal rule ≡ Some production → GivesLeaf syntax.arguments pool production size →
      (best : ℕ) × (table_entry table nonterminal ≡ Some best) × (min limit size ≤ best)

-- how far the entries are from the limit
abbrev pub slack : ℕ → List (Option ℕ) → ℕ
slack limit [] = 0
slack limit (None ∷ table) = limit + 2 + slack limit table
slack limit (Some best ∷ table) = limit + 1 - best + slack limit table
