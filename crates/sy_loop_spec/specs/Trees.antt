-- Conditional trees over kept terms.
use Rattle.std.specs.Prelude.{ℕ, zero, suc, ◌≡◌, ◌≤◌, Bool, false, List, [], ◌++◌, map, slice_index_or, Contains}
use Rattle.sy_terms.specs.Values.{Val, Truth, truth}
use Rattle.sy_terms.specs.Expr.{Expr, Constant}
use Rattle.sy_terms.specs.Meaning.{Function, meaning}
use Rattle.sy_grammar_base.specs.Trees as trees
use Rattle.sy_grammar_base.specs.Trees.{Tree}
use Rattle.sy_unify.specs.declared.choice.Choice.{Choice, Leaf, Test'}
use Rattle.sy_bank_level.specs.Banks.{Entry, IsKept, kept_at}
use Rattle.sy_loop_spec.specs.Conditional as conditional
use Rattle.sy_loop_spec.specs.Conditional.{Conditional, leaves, leaf_reached}

-- what is kept for a nonterminal at sizes less than n, by size
abbrev pub kept_below : {X : Type 0} → List (List (List X)) → ℕ → ℕ → List X
kept_below levels nonterminal zero = []
kept_below levels nonterminal (suc n) = kept_below levels nonterminal n ++ kept_at levels nonterminal n

-- the rows that say where kept terms are true
abbrev pub truths : List Entry → List (List Bool)
truths kept = map (λ (entry : Entry). map truth entry.row) kept

-- stands where there is no kept term
abbrev pub nothing_kept : Entry
nothing_kept = record { term = Constant (Truth false); tree = trees.Node 0 trees.none; size = 0; row = [] }

abbrev pub entry_at : List Entry → ℕ → Entry
entry_at kept place = slice_index_or kept place nothing_kept

-- the conditional tree that a choice is, where its numbers stand for these leaves and conditions
abbrev pub conditional_of : List Entry → List Entry → Choice → Conditional
conditional_of leaves conditions (Leaf leaf) = conditional.Leaf (entry_at leaves leaf).tree (entry_at leaves leaf).term
conditional_of leaves conditions (Test' test p there q here) =
    conditional.Test (entry_at conditions test).tree (entry_at conditions test).term (conditional_of leaves conditions there) (conditional_of leaves conditions here)

-- the part is a kept term of the nonterminal, of size at most n, with its derivation
pub record IsKeptPart (levels : List (List (List Entry))) (nonterminal n : ℕ) (tree : Tree) (term : Expr) : Type 0 where
  pub entry : Entry
  pub kept : IsKept levels nonterminal entry
  pub small : entry.size ≤ n
  pub tree_is : entry.tree ≡ tree
  pub term_is : entry.term ≡ term

-- the leaves are kept terms of the start symbol, and the conditions of this nonterminal
abbrev pub AreKeptParts : List (List (List Entry)) → ℕ → ℕ → Conditional → Type 0
AreKeptParts levels condition n (conditional.Leaf tree term) = IsKeptPart levels 0 n tree term
AreKeptParts levels condition n (conditional.Test tree term there here) =
    IsKeptPart levels condition n tree term × AreKeptParts levels condition n there × AreKeptParts levels condition n here

-- a conditional tree over kept parts, of as many leaves, which at each point reaches a leaf of the same value
pub record IsMergedTree (defined : List Function) (points : List (List Val)) (levels : List (List (List Entry))) (condition n : ℕ) (parts : Conditional) : Type 0 where
  pub kept : Conditional
  pub are : AreKeptParts levels condition n kept
  pub many : leaves kept ≡ leaves parts
  pub means : (point : List Val) → Contains points point → meaning defined [] point (leaf_reached defined point kept) ≡ meaning defined [] point (leaf_reached defined point parts)
