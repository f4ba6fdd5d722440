-- Terms and grammar terms as they are read, and what they are as expressions and as patterns.
use Rattle.std.specs.Prelude.{ℕ, ◌+◌, List, [], ◌∷◌, ◌++◌, false}
use Rattle.sy_terms.specs.Values.{Val, Truth}
use Rattle.sy_terms.specs.Expr as expr
use Rattle.sy_terms.specs.Expr.{Expr, Exprs}
use Rattle.sy_terms.specs.declared.op.Op.{Op}
use Rattle.sy_terms.specs.declared.sort.Sort.{Sort}
use Rattle.sy_terms.specs.declared.term.Fun.{Fun}
use Rattle.sy_terms.specs.declared.term.Fun.TheVariants.{Defined, Wanted}
use Rattle.sy_grammar_base.specs.Patterns as pattern
use Rattle.sy_grammar_base.specs.Patterns.{Pattern, Patterns}

-- A let name is counted from the outermost of its term. Arguments and variables are their positions.
mutual
  pub data Phrase : Type 0 where
    Literal : (value : Val) → Phrase
    Position : (position : ℕ) → Phrase
    Local : (level : ℕ) → Phrase
    Nonterminal : (number : ℕ) → Phrase
    Operation : (operator : Op) → (arguments : Phrases) → Phrase
    Invocation : (function : Fun) → (arguments : Phrases) → Phrase
    Let : (bound : Phrases) → (inner : Phrase) → Phrase

  pub data Phrases : Type 0 where
    none : Phrases
    more : (first : Phrase) → (rest : Phrases) → Phrases

-- one list after the other
abbrev pub append_phrases : Phrases → Phrases → Phrases
append_phrases none second = second
append_phrases (more first rest) second = more first (append_phrases rest second)

-- a phrase with its sort
pub record Typed : Type 0 where
  pub phrase : Phrase
  pub sort : Sort

-- phrases with their sorts
pub record Several : Type 0 where
  pub phrases : Phrases
  pub sorts : List Sort

abbrev pub no_terms : Several
no_terms = record { phrases = none; sorts = [] }

-- with one more at the end
abbrev pub behind : Several → Typed → Several
behind done last = record { phrases = append_phrases done.phrases (more last.phrase none); sorts = done.sorts ++ last.sort ∷ [] }

-- The term, where so many positions are in force outside: let names take those behind them.
-- No nonterminal stands in a term.
unfoldable mutual
  pub expr_at : ℕ → Phrase → Expr
  expr_at outside (Literal value) = expr.Constant value
  expr_at outside (Position position) = expr.Variable position
  expr_at outside (Local level) = expr.Variable (outside + level)
  expr_at outside (Nonterminal number) = expr.Constant (Truth false)
  expr_at outside (Operation operator arguments) = expr.Apply operator (exprs_at outside arguments)
  expr_at outside (Invocation function arguments) = expr.Invoke function (exprs_at outside arguments)
  expr_at outside (Let bound inner) = expr.Bind (exprs_at outside bound) (expr_at outside inner)

  pub exprs_at : ℕ → Phrases → Exprs
  exprs_at outside none = expr.none
  exprs_at outside (more first rest) = expr.more (expr_at outside first) (exprs_at outside rest)

abbrev pub definition_number : Fun → ℕ
definition_number (Defined number) = number
definition_number (Wanted number) = number

-- The pattern of a grammar term, in which no let name and no function to be found stands.
unfoldable mutual
  pub pattern_at : Phrase → Pattern
  pattern_at (Literal value) = pattern.Constant value
  pattern_at (Position position) = pattern.Variable position
  pattern_at (Local level) = pattern.Constant (Truth false)
  pattern_at (Nonterminal number) = pattern.Occurrence number
  pattern_at (Operation operator arguments) = pattern.Apply operator (patterns_at arguments)
  pattern_at (Invocation function arguments) = pattern.Invoke (definition_number function) (patterns_at arguments)
  pattern_at (Let bound inner) = pattern.Constant (Truth false)

  pub patterns_at : Phrases → Patterns
  patterns_at none = pattern.none
  patterns_at (more first rest) = pattern.more (pattern_at first) (patterns_at rest)
