use Rattle.std.proofs.Common.{arith, ◌+◌}
use Rattle.sy_bits_circuit.proofs.Reading.{below-64, with-one, with-zero}
use Rattle.sy_bits_circuit.proofs.values.read_number.Goals as goal
use Rattle.sy_bits_circuit.proofs.values.read_number.Goals.{then-bit, else-bit}

pub overflow_add-number : goal.overflow_add-number
overflow_add-number c =
    let e = with-one c.args.bits.now c.loop-i.i c.loop-i.number (omega arith) c.requires c.if-bit.true c.loop-i.invariant in
    let f = below-64 c.args.bits.now (c.loop-i.i + 1) (omega arith) in
    omega (arith, e, f)

pub loop-i-preserved : goal.loop-i-preserved
loop-i-preserved c = elim c.if-bit.branch [
  | then-bit w ↦ rw w.number-is (with-one c.args.bits.now c.loop-i.i c.loop-i.number (omega arith) c.requires w.if-bit.true c.loop-i.invariant)
  | else-bit w ↦ rw w.number-is (with-zero c.args.bits.now c.loop-i.i c.loop-i.number w.if-bit.false c.loop-i.invariant)
]
