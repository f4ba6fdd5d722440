use Rattle.sy_meaning_words.proofs.Numbers.{xor_fits}
use Rattle.sy_meaning_words.proofs.bitwise.xor.Goals as goal

pub made-requires : goal.made-requires
made-requires c = rw (c.width.ensures, c.bits.ensures, c.bits-2.ensures) (xor_fits c.args.s.width c.args.s.bits c.args.t.bits c.args.s.is_valid (rw (← c.requires) at c.args.t.is_valid))
