-- What chain rules give of kept terms.
use Rattle.std.specs.Prelude.{ℕ, ◌≡◌, ◌<◌, length, Some}
use Rattle.sy_grammar_base.specs.Patterns.{Occurrence}
use Rattle.sy_grammar_base.specs.Trees.{Syntax, Template, Node, more, none, rule_at}
use Rattle.sy_bank_level.specs.Banks.{Entry, IsKept}
use Rattle.sy_bank_level.specs.Filling.{World, LevelState, all_levels, TermIsDone}

-- the rule of this number of the one nonterminal is the other one alone
pub record IsChainRule (syntax : Syntax) (nonterminal rule to : ℕ) : Type 0 where
  pub known : nonterminal < length syntax.nonterminals
  pub at : rule_at syntax nonterminal rule ≡ Some (Template (Occurrence to))

-- the kept term, derived by a chain rule
abbrev pub chained : ℕ → Entry → Entry
chained rule entry = record { term = entry.term; tree = Node rule (more entry.tree none); size = entry.size; row = entry.row }

-- the kept terms of this size for the one nonterminal are covered for the other, unless a term was dropped
abbrev pub IsPassed : World → LevelState → ℕ → ℕ → ℕ → Type 0
IsPassed world state nonterminal to size = (entry : Entry) → IsKept (all_levels world state) to entry → entry.size ≡ size → TermIsDone world state nonterminal size entry.term

-- so for each chain rule
abbrev pub ArePassed : World → LevelState → ℕ → Type 0
ArePassed world state size = (nonterminal rule to : ℕ) → rule_at world.syntax nonterminal rule ≡ Some (Template (Occurrence to)) → IsPassed world state nonterminal to size
