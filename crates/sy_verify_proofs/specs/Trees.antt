-- Trees in text as proofs for queries over the integers.
use Rattle.std.specs.Prelude.{ℕ, ◌≡◌, ◌⊎◌, List, []}
use Rattle.sy_text_items.specs.Items.{Item}
use Rattle.sy_query_base.specs.Asked.{Query}
use Rattle.sy_linear_known.specs.declared.tree.Tree.{Tree}
use Rattle.sy_linear_known.specs.Seen.{LinearQuery}
use Rattle.sy_linear_known.specs.Stored.{tree_shape_of}
use Rattle.sy_linear_known.specs.Trees.{TreeRefutes, TreeShape}
use Rattle.sy_linear.specs.Accepted as linear
use Rattle.sy_linear.specs.Accepted.{linear_of}
use Rattle.sy_linear.specs.Judging as judging
use Rattle.sy_linear.specs.Judging.{judged}
use Rattle.sy_proof.specs.Trees.{SpellsTree}
use Rattle.sy_verify.specs.declared.proof_checker.Checking.{Checking}
use Rattle.sy_verify.specs.declared.proof_checker.Checking.TheVariants.{Proves, Fails, Overflows}

-- What is found of a tree for a query of linear arithmetic. The three cases exclude each other.
abbrev pub IsTreeChecking : LinearQuery → TreeShape → Checking → Type 0
IsTreeChecking query tree Proves = (judged query [] 0 tree ≡ judging.Accepted) × TreeRefutes query [] tree
IsTreeChecking query tree Fails = (judged query [] 0 tree ≡ judging.Broken) × (TreeRefutes query [] tree → ⊥)
IsTreeChecking query tree (Overflows node) = judged query [] 0 tree ≡ judging.Unfit node

-- the item spells a tree that refutes the lowered query, and whose numbers keep to 128 bits while it is judged
pub record TreeProves (query : Query) (item : Item) : Type 0 where
  pub tree : Tree
  pub spelled : SpellsTree item (tree_shape_of tree)
  pub judged : judged (linear_of query) [] 0 (tree_shape_of tree) ≡ judging.Accepted
  pub proves : linear.Accepted query tree

-- it spells a tree of which some node isn't as a refutation tree's is, and this node comes first
pub record IsRefused (query : Query) (item : Item) : Type 0 where
  pub tree : TreeShape
  pub spelled : SpellsTree item tree
  pub judged : judged (linear_of query) [] 0 tree ≡ judging.Broken
  pub refused : TreeRefutes (linear_of query) [] tree → ⊥

-- it spells no tree, or such a one
abbrev pub TreeFails : Query → Item → Type 0
TreeFails query item = ((tree : TreeShape) → SpellsTree item tree → ⊥) ⊎ IsRefused query item

-- it spells a tree of which the node of this number comes first: a number there leaves 128 bits
pub record TreeOverflows (query : Query) (item : Item) (node : ℕ) : Type 0 where
  pub tree : TreeShape
  pub spelled : SpellsTree item tree
  pub judged : judged (linear_of query) [] 0 tree ≡ judging.Unfit node

-- a query has no clauses
abbrev pub SpellsClauses : Query → List ℕ → Type 0
SpellsClauses query text = ⊥

abbrev pub LacksClauses : Query → Type 0
LacksClauses query = Unit {0}
