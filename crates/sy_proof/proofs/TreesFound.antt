-- Which trees items spell, and how trees grow from nodes.
use Rattle.std.proofs.Common.{◌≡◌, ◌<◌, ◌≤◌, List, [], ◌∷◌, ◌++◌, refl, ap, sym, subst, ◌∙◌, arith, length, map, Some, None}
use Rattle.std.specs.Prelude.{Option, All, MatchOption, codes, option_and_then, count_by, reverse}
use Rattle.std.proofs.lemmas.List.{reverse-append, map_push}
use Rattle.sy_text_items.specs.Items.{Item, Items}
use Rattle.sy_linear_known.specs.Stored.{tree_shape_of}
use Rattle.sy_linear_known.specs.Trees.{TreeShape}
use Rattle.sy_linear_known.specs.declared.tree.Tree.{Tree}
use Rattle.sy_proof.specs.Growing.{grown, stacked}
use Rattle.sy_proof.specs.Lists.{behind_word, each_in, Finds}
use Rattle.sy_proof.specs.Nodes.{is_inner, node_in, NodeIsLowest}
use Rattle.sy_proof.specs.Trees.{nodes_in, nodes_of, SpellsTree}
use Rattle.sy_proof.specs.declared.nodes.Node.{Node}
use Rattle.sy_proof.proofs.Parsing.{not_parsed, parsed, parsed-last, parsed-none, parsed_nodes}

-- ---- items
pub no_list : (item : Item) → None ≡ behind_word (codes "tree") item → (tree : TreeShape) → SpellsTree item tree → ⊥
no_list item none tree spells =
    let clash : None ≡ Some (nodes_of tree) = ap (option_and_then (each_in node_in)) none ∙ spells.nodes in
    cc

module _ (item : Item) (items : Items) (at : Some items ≡ behind_word (codes "tree") item) where
  nodes_are : each_in node_in items ≡ nodes_in item
  nodes_are = ap (option_and_then (each_in node_in)) at

  pub no_nodes : Finds (All NodeIsLowest) (each_in node_in items) None → (tree : TreeShape) → SpellsTree item tree → ⊥
  no_nodes none tree spells = none (nodes_of tree) (nodes_are ∙ spells.nodes) spells.lowest

  same_nodes : (nodes : List Node) → each_in node_in items ≡ Some nodes → (tree : TreeShape) → SpellsTree item tree → nodes ≡ nodes_of tree
  same_nodes nodes read tree spells = let same : Some nodes ≡ Some (nodes_of tree) = sym read ∙ nodes_are ∙ spells.nodes in cc

  pub too_many : (nodes : List Node) → each_in node_in items ≡ Some nodes → 8000 < count_by is_inner nodes → (tree : TreeShape) → SpellsTree item tree → ⊥
  too_many nodes read many tree spells =
      let few : count_by is_inner nodes ≤ 8000 = subst (λ (all : List Node). count_by is_inner all ≤ 8000) (sym (same_nodes nodes read tree spells)) spells.few in
      omega arith

  pub spelled_by : (nodes : List Node) → each_in node_in items ≡ Some nodes → All NodeIsLowest nodes → count_by is_inner nodes ≤ 8000 → (found : Option Tree) →
      MatchOption found ((tree : TreeShape) → nodes ≡ nodes_of tree → ⊥) (λ tree. nodes ≡ nodes_of (tree_shape_of tree)) →
      MatchOption found ((tree : TreeShape) → SpellsTree item tree → ⊥) (λ tree. SpellsTree item (tree_shape_of tree))
  spelled_by nodes read lowest few None none = λ tree spells. none tree (same_nodes nodes read tree spells)
  spelled_by nodes read lowest few (Some tree) is = record {
    nodes = sym nodes_are ∙ read ∙ ap Some is;
    lowest = subst (All NodeIsLowest) is lowest;
    few = subst (λ (all : List Node). count_by is_inner all ≤ 8000) is few;
  }

-- ---- stacks
stacked-push : (trees : List Tree) (tree : Tree) → stacked (trees ++ tree ∷ []) ≡ tree_shape_of tree ∷ stacked trees
stacked-push trees tree = ap reverse (map_push tree_shape_of trees tree) ∙ reverse-append (map tree_shape_of trees) (tree_shape_of tree ∷ [])

pub stacked_more : (trees new : List Tree) (tree : Tree) → new ≡ trees ++ tree ∷ [] → stacked new ≡ tree_shape_of tree ∷ stacked trees
stacked_more trees new tree is = ap stacked is ∙ stacked-push trees tree

pub stacked_none : (trees rest : List Tree) → trees ≡ rest ++ [] → rest ≡ [] → stacked trees ≡ []
stacked_none trees rest is nothing = ap stacked (is ∙ ap (λ (all : List Tree). all ++ []) nothing)

-- ---- one node more
pub emptied : (nodes : List Node) → length nodes ≡ 0 → nodes ≡ []
emptied [] none = refl
emptied (node ∷ nodes) none = absurd (omega arith)

pub grown_step : (nodes rest : List Node) (node : Node) (stack new : List TreeShape) (whole : Option (List TreeShape)) → nodes ≡ rest ++ node ∷ [] → grown node stack ≡ Some new →
    parsed nodes (Some stack) ≡ whole → parsed rest (Some new) ≡ whole
grown_step nodes rest node stack new whole is grows on =
    sym (ap (λ (all : List Node). parsed all (Some stack)) is ∙ parsed-last rest node (Some stack) ∙ ap (parsed rest) grows) ∙ on

pub grown_none : (nodes rest all : List Node) (node : Node) (stack : List TreeShape) → nodes ≡ rest ++ node ∷ [] → grown node stack ≡ None →
    parsed nodes (Some stack) ≡ parsed all (Some []) → (tree : TreeShape) → all ≡ nodes_of tree → ⊥
grown_none nodes rest all node stack is stops on tree same =
    let nothing : None ≡ parsed all (Some []) = sym (ap (λ (ns : List Node). parsed ns (Some stack)) is ∙ parsed-last rest node (Some stack) ∙ ap (parsed rest) stops ∙ parsed-none rest) ∙ on in
    not_parsed all (λ other parses. let clash : None ≡ Some (other ∷ []) = nothing ∙ parses in cc) tree same

pub built : (all : List Node) (stack : List TreeShape) (found : Option Tree) → parsed [] (Some stack) ≡ parsed all (Some []) →
    MatchOption found ((tree : TreeShape) → stack ≡ tree ∷ [] → ⊥) (λ tree. stack ≡ tree_shape_of tree ∷ []) →
    MatchOption found ((tree : TreeShape) → all ≡ nodes_of tree → ⊥) (λ tree. all ≡ nodes_of (tree_shape_of tree))
built all stack None on none = λ tree same. not_parsed all (λ other parses. let one : Some stack ≡ Some (other ∷ []) = on ∙ parses in none other (cc)) tree same
built all stack (Some tree) on is = parsed_nodes all (tree_shape_of tree) (sym on ∙ ap Some is)
