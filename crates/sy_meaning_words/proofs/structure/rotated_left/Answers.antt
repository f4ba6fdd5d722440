use Rattle.std.proofs.Common.{◌∙◌}
use Rattle.sy_meaning_words.proofs.Numbers.{rotates_left}
use Rattle.sy_meaning_words.proofs.structure.rotated_left.Goals as goal

pub returns-else-count-eq0 : goal.returns-else-count-eq0
returns-else-count-eq0 c =
    c.joined.ensures ∙ rotates_left c.args.by c.args.s.width c.args.s.bits _ _ _ _ c.args.s.is_valid (rw (c.width-width.ensures) at c.part.ensures) (rw (c.width-width.ensures) at c.part-else-count-eq0.ensures)
