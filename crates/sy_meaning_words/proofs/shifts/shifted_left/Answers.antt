use Rattle.std.proofs.Common.{arith, ap, ◌∙◌}
use Rattle.sy_terms.specs.Values.{Bits}
use Rattle.sy_meaning_core.proofs.Masks.{is_fit}
use Rattle.sy_meaning_words.proofs.Numbers.{shift_up}
use Rattle.sy_meaning_words.proofs.shifts.shifted_left.Goals as goal

pub returns : goal.returns
returns c =
    let fit = is_fit c.args.s.width c.args.s.bits c.args.s.is_valid in
    c.lowest.ensures ∙ rw (c.width-width.ensures, c.bits-2.ensures, c.bits-3.ensures) (ap (Bits c.args.s.width) (shift_up c.args.s.width c.args.s.bits c.args.t.bits (omega arith) fit.1))
