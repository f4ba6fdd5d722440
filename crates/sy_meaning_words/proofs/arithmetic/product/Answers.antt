use Rattle.std.proofs.Common.{ap, ◌∙◌}
use Rattle.sy_terms.specs.Values.{Bits}
use Rattle.sy_meaning_core.proofs.Masks.{is_fit}
use Rattle.sy_meaning_core.proofs.Wrapping.{mod_64}
use Rattle.std.proofs.Common.{◌*◌}
use Rattle.sy_meaning_words.proofs.arithmetic.product.Goals as goal

pub returns : goal.returns
returns c =
    let fit = is_fit c.args.s.width c.args.s.bits c.args.s.is_valid in
    c.lowest.ensures ∙ rw (c.width.ensures, c.bits.ensures, c.bits-2.ensures) (ap (Bits c.args.s.width) (mod_64 (c.args.s.bits * c.args.t.bits) c.args.s.width fit.1))
