use Rattle.sy_grammar.specs.Noted.{note_of-out}
use Rattle.sy_grammar.proofs.note.Note.row.Goals as goal

pub returns : goal.returns
returns c = rw (note_of-out) (c.as_slice.ensures.value)
