use Rattle.sy_bits_circuit.proofs.Reading.{read-valid}
use Rattle.sy_bits_circuit.proofs.values.read_value.Goals as goal

pub unreachable-requires-in-None : goal.unreachable-requires-in-None
unreachable-requires-in-None c =
    read-valid c.args.sort c.in-Bits.width c.read_number.result c.args.bits.now c.in-Bits.is c.requires.has c.requires.long c.read_number.ensures c.in-None.ensures
