-- What rules for all of a sort give at a size, and when all of it is covered.
use Rattle.std.specs.Prelude.{ℕ, ◌+◌, ◌≡◌, ◌<◌, length, Option, Some, None, ℤ, pos, negsuc}
use Rattle.sy_terms.specs.Values.{Val, Truth, Whole, Bits}
use Rattle.sy_terms.specs.Expr.{Expr}
use Rattle.sy_terms.specs.Theories.{value_at}
use Rattle.sy_terms.specs.declared.sort.Sort.{Sort}
use Rattle.sy_grammar_base.specs.Trees.{Syntax, Production, EachConstant, rule_at, constant_yield, constant_size, literal}
use Rattle.sy_bank_level.specs.Covering.{Offers}
use Rattle.sy_bank_level.specs.Filling.{World, LevelState, TermIsDone}

-- the rule of this number of the nonterminal
pub record IsLeafRule (syntax : Syntax) (nonterminal rule : ℕ) (production : Production) : Type 0 where
  pub known : nonterminal < length syntax.nonterminals
  pub at : rule_at syntax nonterminal rule ≡ Some production

-- all that the rule gives at this size is covered, unless a term was dropped
abbrev pub GivesDone : World → LevelState → ℕ → Production → ℕ → Type 0
GivesDone world state nonterminal production size = (term : Expr) → Offers world.syntax world.pool world.levels (Some production) size term → TermIsDone world state nonterminal size term

-- a rule for all constants of the sort gives the value
abbrev pub IsGivenConstant : Sort → Val → Type 0
IsGivenConstant sort value = constant_yield (Some (EachConstant sort)) value ≡ Some (literal value)

-- if it does at this size, the value is covered
abbrev pub IsDoneFor : World → LevelState → ℕ → Sort → ℕ → Val → Type 0
IsDoneFor world state nonterminal sort size value = IsGivenConstant sort value → constant_size world.pool value ≡ size → TermIsDone world state nonterminal size (literal value)

-- the same of the sort's value that the number is, where there is one
abbrev pub IsDoneAt : World → LevelState → ℕ → Sort → ℕ → ℤ → Type 0
IsDoneAt world state nonterminal sort size number = (value : Val) → value_at sort number ≡ Some value → IsDoneFor world state nonterminal sort size value

-- the positive integer whose negation the value is
abbrev pub positive_of : Val → Option Val
positive_of (Truth truth) = None
positive_of (Whole (pos n)) = None
positive_of (Whole (negsuc n)) = Some (Whole (pos (n + 1)))
positive_of (Bits width number) = None
