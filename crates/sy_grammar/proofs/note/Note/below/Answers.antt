use Rattle.std.proofs.Common.{ap}
use Rattle.sy_grammar.specs.Noted.{note_of-out, notes_of}
use Rattle.sy_grammar.proofs.note.Note.below.Goals as goal

pub returns : goal.returns
returns c = rw (note_of-out) (ap notes_of c.as_slice.ensures.value)
