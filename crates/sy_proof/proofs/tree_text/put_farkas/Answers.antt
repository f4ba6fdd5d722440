use Rattle.std.specs.Prelude.{codes}
use Rattle.sy_text_items.specs.Lexicon.{digit, letter, mark, symbol_byte}
use Rattle.sy_text.specs.Spelling.{atom_text, bare, symbol_text}
use Rattle.sy_proof.specs.Lists.{each_item}
use Rattle.sy_proof.specs.Numbers.{fraction_item}
use Rattle.sy_proof.proofs.Texts.{word_then}
use Rattle.sy_proof.proofs.tree_text.put_farkas.Goals as goal

pub returns-clause-text : goal.returns-clause-text
unfolding atom_text symbol_text bare digit symbol_byte letter mark
returns-clause-text c =
    word_then c.args.out.now (codes " (farkas") c.append.new.self c.put_fractions.new.out c.push.new.self (each_item fraction_item c.args.multipliers.now)
    c.in_ok-append.ensures.ok c.in_ok-put_fractions.ensures.text c.in_ok-push.ensures.ok
