use Rattle.std.proofs.Common.{refl, ◌∙◌}
use Rattle.sy_meaning_words.proofs.arithmetic.sum.Goals as goal

pub sum-requires-clause-s : goal.sum-requires-clause-s
sum-requires-clause-s c = rw (c.width-width.ensures, c.bits.ensures) c.args.s.is_valid

pub sum-requires-clause-t : goal.sum-requires-clause-t
sum-requires-clause-t c = rw (c.width-width.ensures, c.bits-2.ensures) (rw (← c.requires) at c.args.t.is_valid)

pub made-requires : goal.made-requires
made-requires c = c.sum.ensures.fits

pub returns : goal.returns
returns c = c.made.ensures ∙ rw (c.sum.ensures.is, c.width-width.ensures, c.bits.ensures, c.bits-2.ensures) refl
