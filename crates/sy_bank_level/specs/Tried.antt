-- What rules have given while the kept terms of a size are found.
use Rattle.std.specs.Prelude.{ℕ, ◌<◌}
use Rattle.sy_terms.specs.Expr.{Expr}
use Rattle.sy_grammar_base.specs.Trees.{rule_at}
use Rattle.sy_bank_level.specs.Covering.{Offers}
use Rattle.sy_bank_level.specs.Filling.{World, LevelState, all_levels, TermIsDone}

-- what the rule gives, at this size, of kept terms of lesser sizes is done
abbrev pub IsTried : World → LevelState → ℕ → ℕ → ℕ → Type 0
IsTried world state size nonterminal rule = (term : Expr) → Offers world.syntax world.pool world.levels (rule_at world.syntax nonterminal rule) size term → TermIsDone world state nonterminal size term

-- so for the first rules of a nonterminal, and for all rules of the first nonterminals
abbrev pub AreTried : World → LevelState → ℕ → ℕ → ℕ → Type 0
AreTried world state size nonterminal count = (rule : ℕ) → rule < count → IsTried world state size nonterminal rule

abbrev pub AllAreTried : World → LevelState → ℕ → ℕ → Type 0
AllAreTried world state size count = (nonterminal rule : ℕ) → nonterminal < count → IsTried world state size nonterminal rule

-- whatever rules give, at this size, of kept terms is done
abbrev pub IsFilled : World → LevelState → ℕ → Type 0
IsFilled world state size = (nonterminal rule : ℕ) (term : Expr) →
    Offers world.syntax world.pool (all_levels world state) (rule_at world.syntax nonterminal rule) size term → TermIsDone world state nonterminal size term
