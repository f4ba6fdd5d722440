use Rattle.std.proofs.Common.{◌++◌, ap, ◌∙◌, List, ℕ}
use Rattle.std.specs.Prelude.{codes}
use Rattle.sy_text_items.specs.Lexicon.{digit, letter, mark, symbol_byte}
use Rattle.sy_text.specs.Spelling.{atom_text, bare, symbol_text}
use Rattle.sy_linear_known.specs.Stored.{tree_shape_of}
use Rattle.sy_proof.specs.Lists.{each_item}
use Rattle.sy_proof.specs.Nodes.{node_item}
use Rattle.sy_proof.proofs.Texts.{line_then}
use Rattle.sy_proof.proofs.TreeNodes.{tree_nodes}
use Rattle.sy_proof.proofs.TreesAgain.{reads_again}
use Rattle.sy_proof.proofs.tree_text.write_tree.Goals as goal

pub returns-clause-text : goal.returns-clause-text
unfolding atom_text symbol_text bare digit symbol_byte letter mark
returns-clause-text c =
    line_then (codes "(tree") c.append.new.self c.put_nodes.new.out c.append-2.new.self (each_item node_item (tree_nodes c.args.tree.now))
    (c.in_ok-append.ensures.ok ∙ ap (λ (text : List ℕ). text ++ codes "(tree") c.new-out.ensures) c.in_ok-put_nodes.ensures.text c.in_ok-append-2.ensures.ok

pub returns-clause-again : goal.returns-clause-again
returns-clause-again c readable total rest = reads_again (tree_shape_of c.args.tree.now) c.append-2.new.self c.in_ok-put_nodes.ensures.fit (returns-clause-text c) readable total rest
