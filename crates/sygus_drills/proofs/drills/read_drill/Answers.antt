use Rattle.sygus_drills.proofs.Lengths.{files_are_short}
use Rattle.sygus_drills.proofs.Drilling.{not_refused, not_idle, not_integers, is_asked}
use Rattle.sygus_drills.proofs.drills.read_drill.Goals as goal

pub read_file-requires : goal.read_file-requires
read_file-requires c = rw (c.as_slice.ensures, c.in_ok-file.ensures) (files_are_short c.args.number)

pub returns-in-Ok-Bits : goal.returns-in-Ok-Bits
returns-in-Ok-Bits c =
    let read = rw (c.as_slice.ensures, c.in_ok-file.ensures, c.in-Ok-Bits.field-0-is) at c.in-Ok-Bits.ensures.read in
    let fit = rw c.in-Ok-Bits.field-0-is at c.in-Ok-Bits.ensures.fit in
    is_asked c.args.number c.in-Ok-Bits.problems _ read fit

pub unreachable-requires : goal.unreachable-requires
unreachable-requires c =
    not_integers c.args.number c.in-Ok-Ints.field-0-0 c.in-Ok-Ints.field-0-1 (rw (c.as_slice.ensures, c.in_ok-file.ensures, c.in-Ok-Ints.field-0-is) at c.in-Ok-Ints.ensures.read)

pub unreachable-requires-in-Ok-Idle : goal.unreachable-requires-in-Ok-Idle
unreachable-requires-in-Ok-Idle c = not_idle c.args.number (rw (c.as_slice.ensures, c.in_ok-file.ensures, c.in-Ok-Idle.field-0-is) at c.in-Ok-Idle.ensures.read)

pub unreachable-requires-in-Err-Refused : goal.unreachable-requires-in-Err-Refused
unreachable-requires-in-Err-Refused c =
    not_refused c.args.number c.in-Err-Refused.field-0-0 (rw (c.as_slice.ensures, c.in_ok-file.ensures, c.in-Err-Refused.field-0-is) at c.in-Err-Refused.ensures.read)
