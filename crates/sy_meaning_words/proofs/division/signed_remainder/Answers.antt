use Rattle.std.proofs.Common.{refl, ◌∙◌}
use Rattle.sy_meaning_words.proofs.division.signed_remainder.Goals as goal

pub signed_remainder-requires-clause-s : goal.signed_remainder-requires-clause-s
signed_remainder-requires-clause-s c = rw (c.width-width.ensures, c.bits.ensures) c.args.s.is_valid

pub signed_remainder-requires-clause-t : goal.signed_remainder-requires-clause-t
signed_remainder-requires-clause-t c = rw (c.width-width.ensures, c.bits-2.ensures) (rw (← c.requires) at c.args.t.is_valid)

pub made-requires : goal.made-requires
made-requires c = c.signed_remainder.ensures.fits

pub returns : goal.returns
returns c = c.made.ensures ∙ rw (c.signed_remainder.ensures.is, c.width-width.ensures, c.bits.ensures, c.bits-2.ensures) refl
