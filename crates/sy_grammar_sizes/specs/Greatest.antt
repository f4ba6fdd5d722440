-- The largest size of derivations.
use Rattle.std.specs.Prelude.{ℕ, List, ◌≡◌, ◌<◌, ◌≤◌, ◌⊎◌}
use Rattle.sy_terms.specs.Values.{Val}
use Rattle.sy_terms.specs.Expr.{Expr}
use Rattle.sy_grammar_base.specs.Trees.{Syntax, Tree, Derives, tree_size}

-- a derivation from the nonterminal has this size
pub record IsSize (syntax : Syntax) (pool : List Val) (nonterminal size : ℕ) : Type 0 where
  pub tree : Tree
  pub term : Expr
  pub derives : Derives syntax nonterminal tree term
  pub is : tree_size syntax pool nonterminal tree ≡ size

-- nothing is derived from the nonterminal
abbrev pub DerivesNothing : Syntax → List Val → ℕ → Type 0
DerivesNothing syntax pool nonterminal = (size : ℕ) → IsSize syntax pool nonterminal size → ⊥

-- the largest size of a derivation from the start symbol, or 0 where there is none
pub record IsLargest (syntax : Syntax) (pool : List Val) (size : ℕ) : Type 0 where
  pub bounds : (other : ℕ) → IsSize syntax pool 0 other → other ≤ size
  pub met : IsSize syntax pool 0 size ⊎ (DerivesNothing syntax pool 0 × (size ≡ 0))

-- a derivation from the start symbol is larger
abbrev pub IsExceeded : Syntax → List Val → ℕ → Type 0
IsExceeded syntax pool cap = (size : ℕ) × (cap < size) × IsSize syntax pool 0 size
