use Rattle.std.proofs.Common.{refl, ◌∙◌}
use Rattle.sy_meaning_words.proofs.division.remainder.Goals as goal

pub remainder-requires-clause-s : goal.remainder-requires-clause-s
remainder-requires-clause-s c = rw (c.width-width.ensures, c.bits.ensures) c.args.s.is_valid

pub remainder-requires-clause-t : goal.remainder-requires-clause-t
remainder-requires-clause-t c = rw (c.width-width.ensures, c.bits-2.ensures) (rw (← c.requires) at c.args.t.is_valid)

pub made-requires : goal.made-requires
made-requires c = c.remainder.ensures.fits

pub returns : goal.returns
returns c = c.made.ensures ∙ rw (c.remainder.ensures.is, c.width-width.ensures, c.bits.ensures, c.bits-2.ensures) refl
