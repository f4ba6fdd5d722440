-- Sizes of nodes and of lists of derivations.
use Rattle.std.proofs.Common.{◌≡◌, ℕ, zero, suc, ◌+◌, ◌≤◌, List, [], ◌∷◌, ◌++◌, length, take, refl, ap, arith, min, ◌<◌, Option, Some, None, slice_get}
use Rattle.std.specs.Prelude.{◌^◌}
use Rattle.sy_terms.specs.Values.{Val}
use Rattle.sy_grammar_base.specs.Patterns.{Pattern, occurring, own_size}
use Rattle.sy_grammar_base.specs.Trees as trees
use Rattle.sy_grammar_base.specs.Trees.{Syntax, Trees, Production, Template, EachConstant, EachVariable, template, template_at, node_size, rule_at, tree_size, tree_sizes}
use Rattle.sy_grammar_base.specs.Grown.{tree_of, trees_of}
use Rattle.sy_grammar_base.specs.declared.derivation.Derivation.{Derivation}

node_sized : (found : Option Production) (pattern : Pattern) (children : List ℕ → ℕ) → Some pattern ≡ template found → node_size found children ≡ own_size pattern + children (occurring pattern)
node_sized None pattern children e = absurd cc
node_sized (Some (Template own)) pattern children e = let same : own ≡ pattern = cc in ap (λ p. own_size p + children (occurring p)) same
node_sized (Some (EachConstant sort)) pattern children e = absurd cc
node_sized (Some (EachVariable sort)) pattern children e = absurd cc

node_unsized : (found : Option Production) (children : List ℕ → ℕ) → None ≡ template found → node_size found children ≡ 0
node_unsized None children e = refl
node_unsized (Some (Template own)) children e = absurd cc
node_unsized (Some (EachConstant sort)) children e = refl
node_unsized (Some (EachVariable sort)) children e = refl

-- a node by a rule's pattern
pub size_of_node : (syntax : Syntax) (pool : List Val) (nonterminal rule : ℕ) (children : Trees) (pattern : Pattern) → Some pattern ≡ template_at syntax nonterminal rule →
    tree_size syntax pool nonterminal (trees.Node rule children) ≡ own_size pattern + tree_sizes syntax pool (occurring pattern) children
unfolding tree_size tree_sizes
size_of_node syntax pool nonterminal rule children pattern e = node_sized (rule_at syntax nonterminal rule) pattern (λ occurrences. tree_sizes syntax pool occurrences children) e

-- a node without such a rule
pub size_of_stray : (syntax : Syntax) (pool : List Val) (nonterminal rule : ℕ) (children : Trees) → None ≡ template_at syntax nonterminal rule →
    tree_size syntax pool nonterminal (trees.Node rule children) ≡ 0
unfolding tree_size tree_sizes
size_of_stray syntax pool nonterminal rule children e = node_unsized (rule_at syntax nonterminal rule) (λ occurrences. tree_sizes syntax pool occurrences children) e

pub size_of_constant : (syntax : Syntax) (pool : List Val) (nonterminal rule : ℕ) (value : Val) → tree_size syntax pool nonterminal (trees.ConstantLeaf rule value) ≡ trees.constant_size pool value
unfolding tree_size
size_of_constant syntax pool nonterminal rule value = refl

pub size_of_variable : (syntax : Syntax) (pool : List Val) (nonterminal rule position : ℕ) → tree_size syntax pool nonterminal (trees.VariableLeaf rule position) ≡ 1
unfolding tree_size
size_of_variable syntax pool nonterminal rule position = refl

pub sizes_none : (syntax : Syntax) (pool : List Val) (occurrences : List ℕ) → tree_sizes syntax pool occurrences trees.none ≡ 0
unfolding tree_sizes tree_size
sizes_none syntax pool [] = refl
sizes_none syntax pool (n ∷ ns) = refl

-- one child more, for the next occurrence
pub sizes_last : {T N : Type 0} (number : N → Val) (syntax : Syntax) (pool : List Val) (occurrences : List ℕ) (children : List (Derivation T N)) (child : Derivation T N) (nonterminal : ℕ) →
    slice_get occurrences (length children) ≡ Some nonterminal →
    tree_sizes syntax pool occurrences (trees_of number (children ++ child ∷ [])) ≡ tree_sizes syntax pool occurrences (trees_of number children) + tree_size syntax pool nonterminal (tree_of number child)
unfolding tree_sizes tree_size
sizes_last number syntax pool [] children child nonterminal at = grind arith
sizes_last number syntax pool (n ∷ ns) [] child nonterminal at =
    let same : n ≡ nonterminal = cc in
    let empty = sizes_none syntax pool ns in
    let first = ap (λ m. tree_size syntax pool m (tree_of number child)) same in
    omega (arith, empty, first)
sizes_last number syntax pool (n ∷ ns) (c ∷ children) child nonterminal at = omega (arith, sizes_last number syntax pool ns children child nonterminal at)

-- children beyond the last occurrence count nothing
pub sizes_beyond : {T N : Type 0} (number : N → Val) (syntax : Syntax) (pool : List Val) (occurrences : List ℕ) (children : List (Derivation T N)) (i : ℕ) →
    length occurrences ≤ i → tree_sizes syntax pool occurrences (trees_of number (take i children)) ≡ tree_sizes syntax pool occurrences (trees_of number children)
unfolding tree_sizes tree_size
sizes_beyond number syntax pool [] children i h = refl
sizes_beyond number syntax pool (n ∷ ns) children zero h = absurd (omega arith)
sizes_beyond number syntax pool (n ∷ ns) [] (suc i) h = refl
sizes_beyond number syntax pool (n ∷ ns) (c ∷ children) (suc i) h = omega (arith, sizes_beyond number syntax pool ns children i (omega arith))

-- a sum of two numbers that are cut off, cut off again
pub capped : (cap a b x y sum result : ℕ) → cap < 2 ^ 32 → x ≡ min cap a → y ≡ min cap b → sum ≡ min (x + y) 4294967295 → result ≡ min sum cap → result ≡ min cap (a + b)
capped cap a b x y sum result fits first second summed cut = omega arith
