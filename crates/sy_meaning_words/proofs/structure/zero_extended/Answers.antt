use Rattle.sy_meaning_words.proofs.Numbers.{wider}
use Rattle.sy_meaning_words.proofs.structure.zero_extended.Goals as goal

pub made-requires : goal.made-requires
made-requires c = rw (c.width.ensures, c.bits.ensures) (wider c.args.s.width c.args.by c.args.s.bits c.args.s.is_valid c.requires)
