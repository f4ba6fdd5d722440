use Rattle.std.proofs.Common.{refl, ◌∙◌}
use Rattle.sy_meaning_words.proofs.division.quotient.Goals as goal

pub quotient-requires-clause-s : goal.quotient-requires-clause-s
quotient-requires-clause-s c = rw (c.width-width.ensures, c.bits.ensures) c.args.s.is_valid

pub quotient-requires-clause-t : goal.quotient-requires-clause-t
quotient-requires-clause-t c = rw (c.width-width.ensures, c.bits-2.ensures) (rw (← c.requires) at c.args.t.is_valid)

pub made-requires : goal.made-requires
made-requires c = c.quotient.ensures.fits

pub returns : goal.returns
returns c = c.made.ensures ∙ rw (c.quotient.ensures.is, c.width-width.ensures, c.bits.ensures, c.bits-2.ensures) refl
