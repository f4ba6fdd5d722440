use Rattle.sy_grammar.specs.Noted.{note_of-roll}
use Rattle.sy_grammar.proofs.note.Note.new.Goals as goal

pub returns : goal.returns
returns c = note_of-roll c.args.row c.args.below
