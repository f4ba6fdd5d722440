use Rattle.std.proofs.Common.{arith, refl}
use Rattle.sy_gates.proofs.SignMasks.{same_step}
use Rattle.sy_gates.proofs.masks.are_all.Goals as goal

pub loop-bit-preserved : goal.loop-bit-preserved
loop-bit-preserved c = λ v. same_step v c.args.bits.now c.loop-bit.bit-index _ c.args.literal (omega arith)
    (c.if-not-is_literal.ensures.0 refl) (c.loop-bit.invariant v)
