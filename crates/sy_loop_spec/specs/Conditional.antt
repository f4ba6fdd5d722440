-- Conditional trees: terms that choose between derived terms by derived conditions.
use Rattle.std.specs.Prelude.{ℕ, ◌+◌, ◌≤◌, ◌≡◌, List, [], Some, if◌then◌else◌}
use Rattle.sy_terms.specs.Values.{Val, truth}
use Rattle.sy_terms.specs.Expr as expr
use Rattle.sy_terms.specs.Expr.{Expr}
use Rattle.sy_terms.specs.Meaning.{Function, meaning}
use Rattle.sy_terms.specs.declared.op.Op.TheVariants as ops
use Rattle.sy_grammar_base.specs.Patterns as pattern
use Rattle.sy_grammar_base.specs.Trees.{Syntax, Tree, Derives, tree_size, IsFirst, is_choice, start_rules, template_at}

-- a leaf, or a condition with a tree for where it is true and one for where it isn't; each part with its derivation
pub data Conditional : Type 0 where
  Leaf : (tree : Tree) → (term : Expr) → Conditional
  Test : (tree : Tree) → (term : Expr) → (there here : Conditional) → Conditional

-- the term that a conditional tree is
abbrev pub yield : Conditional → Expr
yield (Leaf tree term) = term
yield (Test tree term there here) = expr.Apply ops.Ite (expr.more term (expr.more (yield there) (expr.more (yield here) expr.none)))

-- how many leaves it has
abbrev pub leaves : Conditional → ℕ
leaves (Leaf tree term) = 1
leaves (Test tree term there here) = leaves there + leaves here

-- the leaf that it chooses at these values of its arguments
abbrev pub leaf_reached : List Function → List Val → Conditional → Expr
leaf_reached defined values (Leaf tree term) = term
leaf_reached defined values (Test tree term there here) =
    if truth (meaning defined [] values term) then leaf_reached defined values there else leaf_reached defined values here

-- the tree derives the term from the nonterminal, and its size is at most n
pub record IsPart (syntax : Syntax) (pool : List Val) (nonterminal n : ℕ) (tree : Tree) (term : Expr) : Type 0 where
  pub derives : Derives syntax nonterminal tree term
  pub small : tree_size syntax pool nonterminal tree ≤ n

-- its leaves are parts of the start symbol, and its conditions of this nonterminal
abbrev pub ArePartsWithin : Syntax → List Val → ℕ → ℕ → Conditional → Type 0
ArePartsWithin syntax pool condition n (Leaf tree term) = IsPart syntax pool 0 n tree term
ArePartsWithin syntax pool condition n (Test tree term there here) =
    IsPart syntax pool condition n tree term × ArePartsWithin syntax pool condition n there × ArePartsWithin syntax pool condition n here

-- the rule is the start symbol's first choice between two terms of the start symbol, by a condition of this nonterminal
pub record IsTreeRule (syntax : Syntax) (rule condition : ℕ) : Type 0 where
  pub first : IsFirst is_choice (start_rules syntax.nonterminals) rule
  pub is : template_at syntax 0 rule ≡ Some (pattern.Apply ops.Ite (pattern.more (pattern.Occurrence condition) (pattern.more (pattern.Occurrence 0) (pattern.more (pattern.Occurrence 0) pattern.none))))
