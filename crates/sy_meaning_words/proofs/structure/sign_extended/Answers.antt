use Rattle.std.proofs.Common.{arith}
use Rattle.sy_meaning_words.proofs.Numbers.{wider, ones_grow, filled_fits}
use Rattle.sy_meaning_words.proofs.structure.sign_extended.Goals as goal

pub overflow_sub-added : goal.overflow_sub-added
overflow_sub-added c =
    let grow = ones_grow c.args.s.width c.args.by in
    rw (c.greatest.ensures, c.greatest-then-is_negative.ensures, c.width.ensures, c.width-then-is_negative.ensures) (omega (arith, grow))

pub made-requires : goal.made-requires
made-requires c = rw (c.greatest.ensures, c.greatest-then-is_negative.ensures, c.width.ensures, c.width-then-is_negative.ensures, c.bits.ensures) (filled_fits c.args.s.width c.args.by c.args.s.bits c.args.s.is_valid c.requires)

pub made-requires-else-is_negative : goal.made-requires-else-is_negative
made-requires-else-is_negative c = rw (c.width.ensures, c.bits-else-is_negative.ensures) (wider c.args.s.width c.args.by c.args.s.bits c.args.s.is_valid c.requires)
