use Rattle.std.proofs.Common.{◌≡◌, ◌++◌, ◌∷◌, subst, sym, rules}
use Rattle.std.specs.Prelude.{OnOk}
use Rattle.std.proofs.lemmas.Int.{to_z-of_z}
use Rattle.sy_text_items.specs.Lexicon.{digit, letter, mark, symbol_byte}
use Rattle.sy_text.specs.Spelling.{atom_text, bare, item_text, symbol_text}
use Rattle.sy_linear_known.specs.declared.tree.Tree.{Tree}
use Rattle.sy_proof.specs.Lists.{each_item, spaced}
use Rattle.sy_proof.specs.Nodes.{node_item}
use Rattle.sy_proof.specs.Numbers.{WholeFits}
use Rattle.sy_proof.specs.declared.nodes.Node.TheVariants.{Split, Branch}
use Rattle.sy_proof.proofs.TreeNodes.{branch_nodes, forked_fit, forked_text, split_nodes, tree_nodes}
use Rattle.sy_proof.proofs.tree_text.+put_nodes.Goals as goal
use mir.Syntax.{w128}

pub returns-in_ok-put_nodes-in-Split-2-clause-text : goal.returns-in_ok-put_nodes-in-Split-2-clause-text
returns-in_ok-put_nodes-in-Split-2-clause-text t c =
    forked_text c.args.tree.now c.deref.result.now c.deref-in-Split.result.now (Split c.in-Split.test) c.args.out.now c.put_split.new.out c.put_nodes.new.out c.put_nodes-in-Split.new.out
    (split_nodes c.args.tree.now c.in-Split.test c.in-Split.field-1 c.in-Split.left c.in-Split.right c.deref.result.now c.deref-in-Split.result.now c.in-Split.is c.deref.ensures c.deref-in-Split.ensures)
    c.in_ok-put_split-in-Split.ensures.text c.in_ok-put_nodes-in-Split.ensures.text c.in_ok-put_nodes-in-Split-2.ensures.text

pub returns-in_ok-put_nodes-in-Split-2-clause-fit : goal.returns-in_ok-put_nodes-in-Split-2-clause-fit
returns-in_ok-put_nodes-in-Split-2-clause-fit t c =
    forked_fit c.args.tree.now c.deref.result.now c.deref-in-Split.result.now (Split c.in-Split.test)
    (split_nodes c.args.tree.now c.in-Split.test c.in-Split.field-1 c.in-Split.left c.in-Split.right c.deref.result.now c.deref-in-Split.result.now c.in-Split.is c.deref.ensures c.deref-in-Split.ensures)
    c.in_ok-put_split-in-Split.ensures.fits c.in_ok-put_nodes-in-Split.ensures.fit c.in_ok-put_nodes-in-Split-2.ensures.fit

pub returns-in_ok-put_nodes-in-Branch-2-clause-text : goal.returns-in_ok-put_nodes-in-Branch-2-clause-text
returns-in_ok-put_nodes-in-Branch-2-clause-text t c =
    forked_text c.args.tree.now c.deref-in-Branch.result.now c.deref-in-Branch-2.result.now (Branch c.in-Branch.variable c.in-Branch.bound) c.args.out.now c.put_branch.new.out c.put_nodes-in-Branch.new.out c.put_nodes-in-Branch-2.new.out
    (branch_nodes c.args.tree.now c.in-Branch.variable c.in-Branch.bound c.in-Branch.field-2 c.in-Branch.left c.in-Branch.right c.deref-in-Branch.result.now c.deref-in-Branch-2.result.now c.in-Branch.is c.deref-in-Branch.ensures c.deref-in-Branch-2.ensures)
    (subst (λ z. c.put_branch.new.out ≡ c.args.out.now ++ 32 ∷ item_text (node_item (Branch c.in-Branch.variable z))) (to_z-of_z w128 c.in-Branch.bound (search rules)) c.in_ok-put_branch-in-Branch.ensures.text)
    c.in_ok-put_nodes-in-Branch.ensures.text c.in_ok-put_nodes-in-Branch-2.ensures.text

pub returns-in_ok-put_nodes-in-Branch-2-clause-fit : goal.returns-in_ok-put_nodes-in-Branch-2-clause-fit
returns-in_ok-put_nodes-in-Branch-2-clause-fit t c =
    forked_fit c.args.tree.now c.deref-in-Branch.result.now c.deref-in-Branch-2.result.now (Branch c.in-Branch.variable c.in-Branch.bound)
    (branch_nodes c.args.tree.now c.in-Branch.variable c.in-Branch.bound c.in-Branch.field-2 c.in-Branch.left c.in-Branch.right c.deref-in-Branch.result.now c.deref-in-Branch-2.result.now c.in-Branch.is c.deref-in-Branch.ensures c.deref-in-Branch-2.ensures)
    (c.in_ok-put_branch-in-Branch.ensures.small, subst WholeFits (to_z-of_z w128 c.in-Branch.bound (search rules)) c.in_ok-put_branch-in-Branch.ensures.fits)
    c.in_ok-put_nodes-in-Branch.ensures.fit c.in_ok-put_nodes-in-Branch-2.ensures.fit

pub returns-in-Unfinished-clause-text : goal.returns-in-Unfinished-clause-text
unfolding atom_text symbol_text bare digit symbol_byte letter mark
returns-in-Unfinished-clause-text t c =
    subst (λ (tree : Tree). OnOk c.put_leaf-in-Unfinished.result (c.put_leaf-in-Unfinished.new.out ≡ c.args.out.now ++ spaced (each_item node_item (tree_nodes tree)))) (sym c.in-Unfinished.is) c.put_leaf-in-Unfinished.ensures
