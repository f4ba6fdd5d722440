use Rattle.std.proofs.Common.{refl, ◌∙◌}
use Rattle.sy_meaning_words.proofs.arithmetic.negated.Goals as goal

pub negated-requires : goal.negated-requires
negated-requires c = rw (c.width-width.ensures, c.bits.ensures) c.args.s.is_valid

pub made-requires : goal.made-requires
made-requires c = c.negated.ensures.fits

pub returns : goal.returns
returns c = c.made.ensures ∙ rw (c.negated.ensures.is, c.width-width.ensures, c.bits.ensures) refl
