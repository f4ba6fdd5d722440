-- The nodes of a tree of the program, and their texts.
use Rattle.std.proofs.Common.{◌≡◌, ℕ, List, ◌∷◌, ◌++◌, ap, sym, subst, ◌∙◌}
use Rattle.std.specs.Prelude.{All, ℤ}
use Rattle.std.specs.declared.alloc.Global.{Global}
use Rattle.std.specs.declared.boxed.Box.{Box}
use Rattle.std.proofs.lemmas.List.Elements.{All-append, All-cons}
use Rattle.sy_text.specs.Spelling.{item_text}
use Rattle.sy_frac.specs.Fraction.{Fraction}
use Rattle.sy_linear_known.specs.Stored.{tree_shape_of}
use Rattle.sy_linear_known.specs.declared.path.Test.{Test}
use Rattle.sy_linear_known.specs.declared.tree.Tree as trees
use Rattle.sy_linear_known.specs.declared.tree.Tree.{Tree}
use Rattle.sy_proof.specs.Lists.{each_item, spaced}
use Rattle.sy_proof.specs.Nodes.{node_item, NodeFits}
use Rattle.sy_proof.specs.Trees.{nodes_of}
use Rattle.sy_proof.specs.declared.nodes.Node.{Node}
use Rattle.sy_proof.specs.declared.nodes.Node.TheVariants.{Split, Branch}
use Rattle.sy_proof.proofs.Texts.{two_then}

abbrev pub tree_nodes : Tree → List Node
tree_nodes tree = nodes_of (tree_shape_of tree)

pub split_nodes : (tree : Tree) (test : Test) (points : List Fraction) (left right : Box Tree Global) (l r : Tree) → tree ≡ trees.Split test points left right → l ≡ left.value → r ≡ right.value → tree_nodes tree ≡ Split test ∷ (tree_nodes l ++ tree_nodes r)
split_nodes tree test points left right l r is e f =
    ap tree_nodes is ∙ ap (λ (all : List Node). Split test ∷ (all ++ tree_nodes right.value)) (ap tree_nodes (sym e)) ∙ ap (λ (all : List Node). Split test ∷ (tree_nodes l ++ all)) (ap tree_nodes (sym f))

pub branch_nodes : (tree : Tree) (variable : ℕ) (bound : ℤ) (points : List Fraction) (left right : Box Tree Global) (l r : Tree) → tree ≡ trees.Branch variable bound points left right → l ≡ left.value → r ≡ right.value →
    tree_nodes tree ≡ Branch variable bound ∷ (tree_nodes l ++ tree_nodes r)
branch_nodes tree variable bound points left right l r is e f =
    ap tree_nodes is ∙ ap (λ (all : List Node). Branch variable bound ∷ (all ++ tree_nodes right.value)) (ap tree_nodes (sym e)) ∙ ap (λ (all : List Node). Branch variable bound ∷ (tree_nodes l ++ all)) (ap tree_nodes (sym f))

pub forked_text : (tree l r : Tree) (node : Node) (out a b c : List ℕ) → tree_nodes tree ≡ node ∷ (tree_nodes l ++ tree_nodes r) → a ≡ out ++ 32 ∷ item_text (node_item node) →
    b ≡ a ++ spaced (each_item node_item (tree_nodes l)) → c ≡ b ++ spaced (each_item node_item (tree_nodes r)) → c ≡ out ++ spaced (each_item node_item (tree_nodes tree))
forked_text tree l r node out a b c is first second third =
    two_then node_item (tree_nodes l) (tree_nodes r) out (32 ∷ item_text (node_item node)) a b c first second third ∙ ap (λ (nodes : List Node). out ++ spaced (each_item node_item nodes)) (sym is)

pub forked_fit : (tree l r : Tree) (node : Node) → tree_nodes tree ≡ node ∷ (tree_nodes l ++ tree_nodes r) → NodeFits node → All NodeFits (tree_nodes l) → All NodeFits (tree_nodes r) → All NodeFits (tree_nodes tree)
forked_fit tree l r node is fits left right =
    subst (All NodeFits) (sym is) (All-cons NodeFits node (tree_nodes l ++ tree_nodes r) fits (All-append NodeFits (tree_nodes l) (tree_nodes r) left right))
