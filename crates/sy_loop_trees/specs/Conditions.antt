-- The conditions of a grammar's conditional trees.
use Rattle.std.specs.Prelude.{ℕ, Option, Some, None}
use Rattle.sy_grammar_base.specs.Patterns as pattern
use Rattle.sy_grammar_base.specs.Patterns.{Pattern}
use Rattle.sy_grammar_base.specs.Trees.{Production, Syntax, Template}
use Rattle.sy_loop_spec.specs.Conditional.{IsTreeRule}

-- no rule of the start symbol makes conditional trees
abbrev pub HasNoTrees : Syntax → Type 0
HasNoTrees syntax = (rule condition : ℕ) → IsTreeRule syntax rule condition → ⊥

-- one does, with conditions of this nonterminal
pub record IsConditionOf (syntax : Syntax) (condition : ℕ) : Type 0 where
  pub rule : ℕ
  pub chooses : IsTreeRule syntax rule condition

-- the nonterminal that a pattern is
abbrev pub pattern_nonterminal : Pattern → Option ℕ
pattern_nonterminal (pattern.Occurrence nonterminal) = Some nonterminal
pattern_nonterminal _ = None

-- the nonterminal that stands first in an operator's pattern
abbrev pub first_nonterminal : Pattern → Option ℕ
first_nonterminal (pattern.Apply operator (pattern.more first rest)) = pattern_nonterminal first
first_nonterminal _ = None

-- the same of a rule
abbrev pub tested_by : Production → Option ℕ
tested_by (Template pattern) = first_nonterminal pattern
tested_by _ = None
