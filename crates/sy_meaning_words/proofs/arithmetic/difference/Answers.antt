use Rattle.std.proofs.Common.{ap, ◌∙◌}
use Rattle.sy_terms.specs.Values.{Bits}
use Rattle.sy_meaning_core.proofs.Masks.{is_fit}
use Rattle.sy_meaning_core.proofs.Wrapping.{wrap_sub}
use Rattle.sy_meaning_words.proofs.arithmetic.difference.Goals as goal

pub returns : goal.returns
returns c =
    let fit = is_fit c.args.s.width c.args.t.bits (rw (← c.requires) at c.args.t.is_valid) in
    c.lowest.ensures ∙ rw (c.width.ensures, c.bits.ensures, c.bits-2.ensures) (ap (Bits c.args.s.width) (wrap_sub c.args.s.bits c.args.t.bits c.args.s.width fit.2 fit.1))
