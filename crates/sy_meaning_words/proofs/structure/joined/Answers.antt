use Rattle.std.proofs.Common.{ap, ◌∙◌}
use Rattle.sy_terms.specs.Values.{Bits}
use Rattle.sy_meaning_core.proofs.Masks.{is_fit}
use Rattle.sy_meaning_words.proofs.Numbers.{cat_is, cat_fits}
use Rattle.std.proofs.Common.{◌+◌}
use Rattle.sy_meaning_words.proofs.structure.joined.Goals as goal

pub made-requires : goal.made-requires
made-requires c =
    rw (c.width.ensures, c.width-2.ensures, c.width-3.ensures, c.bits.ensures, c.bits-2.ensures) (cat_fits c.args.s.width c.args.s.bits c.args.t.width c.args.t.bits c.args.s.is_valid c.args.t.is_valid c.requires)

pub returns : goal.returns
returns c =
    let s = is_fit c.args.s.width c.args.s.bits c.args.s.is_valid in
    let t = is_fit c.args.t.width c.args.t.bits c.args.t.is_valid in
    c.made.ensures ∙ rw (c.width.ensures, c.width-2.ensures, c.width-3.ensures, c.bits.ensures, c.bits-2.ensures) (ap (Bits (c.args.s.width + c.args.t.width)) (cat_is c.args.s.width c.args.s.bits c.args.t.width c.args.t.bits s.2 t.2 c.requires))
