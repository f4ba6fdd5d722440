-- Nodes in preorder are those of one tree alone.
use Rattle.std.proofs.Common.{◌≡◌, List, [], ◌∷◌, ◌++◌, refl, ap, sym, ◌∙◌, append_assoc, append-nil, Some, None}
use Rattle.std.specs.Prelude.{Option, option_and_then}
use Rattle.sy_linear_known.specs.Trees as shape
use Rattle.sy_linear_known.specs.Trees.{TreeShape}
use Rattle.sy_proof.specs.Growing.{grown}
use Rattle.sy_proof.specs.Trees.{nodes_of}
use Rattle.sy_proof.specs.declared.nodes.Node.{Node}
use Rattle.sy_proof.specs.declared.nodes.Node.TheVariants.{Split, Branch, Cut, Farkas, Shown, Unfinished}

-- the trees of nodes, before trees
abbrev pub parsed : List Node → Option (List TreeShape) → Option (List TreeShape)
parsed [] behind = behind
parsed (node ∷ nodes) behind = option_and_then (grown node) (parsed nodes behind)

parsed-append : (front back : List Node) (behind : Option (List TreeShape)) → parsed (front ++ back) behind ≡ parsed front (parsed back behind)
parsed-append [] back behind = refl
parsed-append (node ∷ front) back behind = ap (option_and_then (grown node)) (parsed-append front back behind)

pub parsed-last : (nodes : List Node) (node : Node) (behind : Option (List TreeShape)) → parsed (nodes ++ node ∷ []) behind ≡ parsed nodes (option_and_then (grown node) behind)
parsed-last nodes node behind = parsed-append nodes (node ∷ []) behind

pub parsed-none : (nodes : List Node) → parsed nodes None ≡ None
parsed-none [] = refl
parsed-none (node ∷ nodes) = ap (option_and_then (grown node)) (parsed-none nodes)

-- the nodes of a tree make this tree
pub parsed-tree : (tree : TreeShape) (rest : List TreeShape) → parsed (nodes_of tree) (Some rest) ≡ Some (tree ∷ rest)
parsed-tree (shape.Split test left right) rest =
    ap (option_and_then (grown (Split test))) (parsed-append (nodes_of left) (nodes_of right) (Some rest) ∙ ap (parsed (nodes_of left)) (parsed-tree right rest) ∙ parsed-tree left (right ∷ rest))
parsed-tree (shape.Branch variable bound left right) rest =
    ap (option_and_then (grown (Branch variable bound))) (parsed-append (nodes_of left) (nodes_of right) (Some rest) ∙ ap (parsed (nodes_of left)) (parsed-tree right rest) ∙ parsed-tree left (right ∷ rest))
parsed-tree (shape.Cut multipliers divisor inner) rest = ap (option_and_then (grown (Cut divisor multipliers))) (parsed-tree inner rest)
parsed-tree (shape.Farkas multipliers) rest = refl
parsed-tree shape.Shown rest = refl
parsed-tree shape.Unfinished rest = refl

-- the nodes of trees
abbrev flat : List TreeShape → List Node
flat [] = []
flat (tree ∷ trees) = nodes_of tree ++ flat trees

grown-flat : (node : Node) (behind trees : List TreeShape) → grown node behind ≡ Some trees → node ∷ flat behind ≡ flat trees
grown-flat (Split test) (left ∷ right ∷ rest) trees is =
    let same : shape.Split test left right ∷ rest ≡ trees = cc in
    ap (λ (nodes : List Node). Split test ∷ nodes) (sym (append_assoc (nodes_of left) (nodes_of right) (flat rest))) ∙ ap flat same
grown-flat (Split test) (left ∷ []) trees is = absurd (cc)
grown-flat (Split test) [] trees is = absurd (cc)
grown-flat (Branch variable bound) (left ∷ right ∷ rest) trees is =
    let same : shape.Branch variable bound left right ∷ rest ≡ trees = cc in
    ap (λ (nodes : List Node). Branch variable bound ∷ nodes) (sym (append_assoc (nodes_of left) (nodes_of right) (flat rest))) ∙ ap flat same
grown-flat (Branch variable bound) (left ∷ []) trees is = absurd (cc)
grown-flat (Branch variable bound) [] trees is = absurd (cc)
grown-flat (Cut divisor multipliers) (inner ∷ rest) trees is = let same : shape.Cut multipliers divisor inner ∷ rest ≡ trees = cc in ap flat same
grown-flat (Cut divisor multipliers) [] trees is = absurd (cc)
grown-flat (Farkas multipliers) rest trees is = let same : shape.Farkas multipliers ∷ rest ≡ trees = cc in ap flat same
grown-flat Shown rest trees is = let same : shape.Shown ∷ rest ≡ trees = cc in ap flat same
grown-flat Unfinished rest trees is = let same : shape.Unfinished ∷ rest ≡ trees = cc in ap flat same

parsed-flat : (nodes : List Node) (trees : List TreeShape) → parsed nodes (Some []) ≡ Some trees → nodes ≡ flat trees
parsed-flat [] trees is = let same : [] ≡ trees = cc in ap flat same
parsed-flat (node ∷ nodes) trees is = by_rest (λ behind at. parsed-flat nodes behind at) (parsed nodes (Some [])) refl is
  where
    by_rest : ((behind : List TreeShape) → parsed nodes (Some []) ≡ Some behind → nodes ≡ flat behind) → (rest : Option (List TreeShape)) → parsed nodes (Some []) ≡ rest →
        option_and_then (grown node) rest ≡ Some trees → node ∷ nodes ≡ flat trees
    by_rest before None at is = absurd (cc)
    by_rest before (Some behind) at is = ap (λ (others : List Node). node ∷ others) (before behind at) ∙ grown-flat node behind trees is

pub parsed_nodes : (nodes : List Node) (tree : TreeShape) → parsed nodes (Some []) ≡ Some (tree ∷ []) → nodes ≡ nodes_of tree
parsed_nodes nodes tree is = parsed-flat nodes (tree ∷ []) is ∙ append-nil (nodes_of tree)

-- so the nodes are those of one tree alone
pub nodes_once : (tree other : TreeShape) → nodes_of tree ≡ nodes_of other → tree ≡ other
nodes_once tree other same =
    let both : Some (tree ∷ []) ≡ Some (other ∷ []) = sym (parsed-tree tree []) ∙ ap (λ (nodes : List Node). parsed nodes (Some [])) same ∙ parsed-tree other [] in
    cc

-- nodes that don't make one tree are those of none
pub not_parsed : (nodes : List Node) → ((tree : TreeShape) → parsed nodes (Some []) ≡ Some (tree ∷ []) → ⊥) → (tree : TreeShape) → nodes ≡ nodes_of tree → ⊥
not_parsed nodes none tree is = none tree (ap (λ (all : List Node). parsed all (Some [])) is ∙ parsed-tree tree [])
