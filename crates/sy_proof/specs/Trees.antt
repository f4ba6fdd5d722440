-- Refutation trees in text: `(tree i ..)`, the nodes in preorder, of which at most 8,000 are inner ones.
use Rattle.std.specs.Prelude.{ℕ, ◌≡◌, ◌≤◌, List, [], ◌∷◌, ◌++◌, All, Option, Some, None, option_and_then, Result, Ok, Err, true, codes, count_by}
use Rattle.sy_text_items.specs.Items.{Item, group, more}
use Rattle.sy_text_items.specs.declared.fault.TextFault.{TextFault}
use Rattle.sy_linear_known.specs.Trees as shape
use Rattle.sy_linear_known.specs.Trees.{TreeShape}
use Rattle.sy_proof.specs.Lists.{behind_word, each_in, each_item, nowhere, word_item}
use Rattle.sy_proof.specs.Nodes.{is_finished, is_inner, node_in, node_item, NodeIsLowest}
use Rattle.sy_proof.specs.declared.nodes.Node.{Node}
use Rattle.sy_proof.specs.declared.nodes.Node.TheVariants.{Split, Branch, Cut, Farkas, Shown, Unfinished}

-- the nodes in preorder
abbrev pub nodes_of : TreeShape → List Node
nodes_of (shape.Split test left right) = Split test ∷ (nodes_of left ++ nodes_of right)
nodes_of (shape.Branch variable bound left right) = Branch variable bound ∷ (nodes_of left ++ nodes_of right)
nodes_of (shape.Cut multipliers divisor inner) = Cut divisor multipliers ∷ nodes_of inner
nodes_of (shape.Farkas multipliers) = Farkas multipliers ∷ []
nodes_of shape.Shown = Shown ∷ []
nodes_of shape.Unfinished = Unfinished ∷ []

abbrev pub tree_item : TreeShape → Item
tree_item tree = group (more (word_item (codes "tree")) (each_item node_item (nodes_of tree))) nowhere

-- the nodes behind the word
abbrev pub nodes_in : Item → Option (List Node)
nodes_in item = option_and_then (each_in node_in) (behind_word (codes "tree") item)

-- few enough inner nodes
abbrev pub AreFewInner : List Node → Type 0
AreFewInner nodes = count_by is_inner nodes ≤ 8000

-- the item spells the tree
pub record SpellsTree (item : Item) (tree : TreeShape) : Type 0 where
  pub nodes : nodes_in item ≡ Some (nodes_of tree)
  pub lowest : All NodeIsLowest (nodes_of tree)
  pub few : AreFewInner (nodes_of tree)

-- a tree that is read again: each leaf is finished, and few enough nodes are inner ones
pub record IsReadable (tree : TreeShape) : Type 0 where
  pub finished : All (λ node. is_finished node ≡ true) (nodes_of tree)
  pub few : AreFewInner (nodes_of tree)

-- an item was read, and it spells this tree and no other
pub record SpellsOnly (item : Item) (tree : TreeShape) : Type 0 where
  pub spells : SpellsTree item tree
  pub only : (other : TreeShape) → SpellsTree item other → other ≡ tree

abbrev pub ReadsTree : TreeShape → Result (Option (Item × ℕ)) TextFault → Type 0
ReadsTree tree (Ok (Some read)) = SpellsOnly read.0 tree
ReadsTree tree (Ok None) = ⊥
ReadsTree tree (Err fault) = ⊥
