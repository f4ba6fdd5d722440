-- No derivation is smaller than 1, and so no kept term is.
use Rattle.std.proofs.Common.{◌≡◌, ℕ, ◌+◌, ◌≤◌, List, [], ◌∷◌, length, Bool, true, false, Option, Some, None, slice_get, arith, ap, refl, ◌∙◌}
use Rattle.std.specs.Prelude.{if◌then◌else◌, ◌||◌}
use Rattle.std.specs.Option.{option_map}
use Rattle.std.specs.List.{list_any}
use Rattle.sy_terms.specs.Values.{Val, same}
use Rattle.sy_terms.specs.Expr.{Expr}
use Rattle.sy_grammar_base.specs.Patterns as pattern
use Rattle.sy_grammar_base.specs.Patterns.{Pattern, occurring, filled, own_size}
use Rattle.sy_grammar_base.specs.Trees as trees
use Rattle.sy_grammar_base.specs.Trees.{Syntax, Production, Template, EachConstant, EachVariable, Tree, Trees, Node, ConstantLeaf, VariableLeaf, rule_at, yield_from, yields_from, node_yield, node_size, terms_joined, tree_size, tree_sizes, constant_size, is_small, digits, value_magnitude}
use Rattle.sy_bank_level.specs.Banks.{Entry, kept_at}
use Rattle.sy_bank_level.specs.Covering.{AreKept, sizes}
use Rattle.sy_bank_level.specs.Filling.{World, LevelState, IsSteady, EntryIsRight}
use Rattle.sy_bank_level.proofs.KeptLaws.{kept_at-before, size-within}

cond-least : (test : Bool) (n : ℕ) → 1 ≤ (if test then 1 else n + 1)
cond-least true n = omega arith
cond-least false n = omega arith

constant-least : (pool : List Val) (value : Val) → 1 ≤ constant_size pool value
constant-least pool value = cond-least (is_small value || list_any (same value) pool) (digits (value_magnitude value))

-- a pattern has a size of its own, or it is one nonterminal
pattern-least : (pattern : Pattern) → 1 ≤ own_size pattern + length (occurring pattern)
pattern-least (pattern.Constant value) = omega arith
pattern-least (pattern.Variable position) = omega arith
pattern-least (pattern.Occurrence nonterminal) = omega arith
pattern-least (pattern.Apply operator arguments) = omega arith
pattern-least (pattern.Invoke definition arguments) = omega arith

some-of : {A B : Type 0} (f : A → B) (found : Option A) (whole : B) → option_map f found ≡ Some whole → (part : A) × (found ≡ Some part)
some-of f None whole e = cc
some-of f (Some part) whole e = (part, refl)

both-of : (first : Option Expr) (rest : Option (List Expr)) (found : List Expr) → terms_joined first rest ≡ Some found → ((term : Expr) × (first ≡ Some term)) × ((more : List Expr) × (rest ≡ Some more))
both-of None rest found e = cc
both-of (Some term) None found e = cc
both-of (Some term) (Some more) found e = ((term, refl), (more, refl))

node-least : (syntax : Syntax) (pool : List Val) (production : Option Production) (children : Trees) (term : Expr) →
    ((nonterminals : List ℕ) (found : List Expr) → yields_from syntax nonterminals children ≡ Some found → length nonterminals ≤ tree_sizes syntax pool nonterminals children) →
    node_yield production (λ occurrences. yields_from syntax occurrences children) ≡ Some term →
    1 ≤ node_size production (λ occurrences. tree_sizes syntax pool occurrences children)
node-least syntax pool None children term each e = cc
node-least syntax pool (Some (EachConstant sort)) children term each e = cc
node-least syntax pool (Some (EachVariable sort)) children term each e = cc
node-least syntax pool (Some (Template pattern)) children term each e =
    let parts = some-of (filled pattern) (yields_from syntax (occurring pattern) children) term e in
    omega (arith, pattern-least pattern, each (occurring pattern) parts.0 parts.1)

mutual
  unfolding yield_from yields_from tree_size tree_sizes

  pub tree-least : (syntax : Syntax) (pool : List Val) (nonterminal : ℕ) (tree : Tree) (term : Expr) → yield_from syntax nonterminal tree ≡ Some term → 1 ≤ tree_size syntax pool nonterminal tree
  tree-least syntax pool nonterminal (Node rule children) term e =
      node-least syntax pool (rule_at syntax nonterminal rule) children term (λ nonterminals found derived. trees-least syntax pool nonterminals children found derived) e
  tree-least syntax pool nonterminal (ConstantLeaf rule value) term e = constant-least pool value
  tree-least syntax pool nonterminal (VariableLeaf rule position) term e = omega arith

  trees-least : (syntax : Syntax) (pool : List Val) (nonterminals : List ℕ) (children : Trees) (found : List Expr) → yields_from syntax nonterminals children ≡ Some found → length nonterminals ≤ tree_sizes syntax pool nonterminals children
  trees-least syntax pool [] children found e = omega arith
  trees-least syntax pool (nonterminal ∷ nonterminals) trees.none found e = cc
  trees-least syntax pool (nonterminal ∷ nonterminals) (trees.more first rest) found e =
      let parts = both-of (yield_from syntax nonterminal first) (yields_from syntax nonterminals rest) found e in
      omega (arith, tree-least syntax pool nonterminal first parts.0.0 parts.0.1, trees-least syntax pool nonterminals rest parts.1.0 parts.1.1)

-- a kept term of a lesser size is right
pub right-at : (w : World) (s : LevelState) (n size place : ℕ) (entry : Entry) → IsSteady w s → slice_get (kept_at w.levels n size) place ≡ Some entry → EntryIsRight w n size entry
right-at w s n size place entry steady at =
    let within = size-within w.levels n size place entry at in
    let same = kept_at-before w.levels s.fresh n size within in
    steady.each n size place entry (ap (λ (list : List Entry). slice_get list place) same ∙ at)

pub size-least : (w : World) (n size : ℕ) (entry : Entry) → EntryIsRight w n size entry → 1 ≤ size
size-least w n size entry right = omega (arith, tree-least w.syntax w.pool n entry.tree entry.term right.sound.derives, right.sound.sized, right.sized)

-- kept terms have a size of at least their number
pub sizes-least : (w : World) (s : LevelState) (ns : List ℕ) (entries : List Entry) → IsSteady w s → AreKept w.levels ns entries → length ns ≤ sizes entries
sizes-least w s [] entries steady kept = omega arith
sizes-least w s (n ∷ ns) [] steady kept = absurd kept
sizes-least w s (n ∷ ns) (entry ∷ entries) steady kept =
    let right = right-at w s n kept.0.size kept.0.place entry steady kept.0.at in
    omega (arith, size-least w n kept.0.size entry right, right.sized, sizes-least w s ns entries steady kept.1)
