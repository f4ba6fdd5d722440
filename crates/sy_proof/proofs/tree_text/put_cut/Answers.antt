use Rattle.std.proofs.Common.{◌≡◌, ◌++◌, subst}
use Rattle.std.specs.Prelude.{codes}
use Rattle.std.proofs.lemmas.Int.{to_z-of_z}
use Rattle.sy_text_items.specs.Lexicon.{digit, letter, mark, symbol_byte}
use Rattle.sy_text.specs.Spelling.{atom_text, bare, item_text, symbol_text}
use Rattle.sy_proof.specs.Lists.{each_item}
use Rattle.sy_proof.specs.Numbers.{fraction_item, whole_item}
use Rattle.sy_proof.proofs.Texts.{word_text_then}
use Rattle.sy_proof.proofs.tree_text.put_cut.Goals as goal
use mir.Syntax.{w128}

pub returns-clause-text : goal.returns-clause-text
unfolding atom_text symbol_text bare digit symbol_byte letter mark
returns-clause-text c =
    word_text_then c.args.out.now (codes " (cut ") _ c.append.new.self c.put_whole.new.out c.put_fractions.new.out c.push.new.self (each_item fraction_item c.args.multipliers.now)
    c.in_ok-append.ensures.ok (subst (λ z. c.put_whole.new.out ≡ c.append.new.self ++ item_text (whole_item z)) (to_z-of_z w128 c.args.divisor c.ranges.divisor) c.in_ok-put_whole.ensures.text) c.in_ok-put_fractions.ensures.text c.in_ok-push.ensures.ok
