-- What notes stand for.
use Rattle.std.specs.Prelude.{List, [], ◌∷◌, ◌≡◌, refl}
use Rattle.std.proofs.Common.{ap, ◌∙◌, sym}
use Rattle.sy_grammar.specs.Notes as notes
use Rattle.sy_grammar.specs.Notes.{Noted, none, more}
use Rattle.sy_grammar.specs.declared.note.Note.{Note, Note', Row_of-Note, end_of-Note, more_of-Note, items-the_row-Note, items_hidden-the_row-Note-0, out-Note}
use Rattle.sy_grammar.specs.declared.note.Note.TheViews.{roll-Note, roll-out-Note}
use Rattle.sy_grammar.specs.declared.note.Note.TheBlock.{hidden-the_row-Note-0}

unfoldable mutual
  pub note_of : Note → notes.Note
  note_of (Note' row shape inner) = Noted row.items (row_of inner)

  pub row_of : {m : _} → Row_of-Note m → notes.Notes
  row_of end_of-Note = none
  row_of (more_of-Note note rest) = more (note_of note) (row_of rest)

abbrev pub notes_of : List Note → notes.Notes
notes_of [] = none
notes_of (note ∷ rest) = more (note_of note) (notes_of rest)

row_of-items : {m : _} (row : Row_of-Note m) → row_of row ≡ notes_of (items-the_row-Note m row)
unfolding row_of note_of
row_of-items end_of-Note = refl
row_of-items (more_of-Note note rest) = ap (more (note_of note)) (row_of-items rest)

pub note_of-roll : (row : _) (inner : _) → note_of (roll-Note (record { row = row; below = inner })) ≡ Noted row.items (notes_of inner.items)
unfolding note_of row_of roll-Note denote.Hole.Carrier.roll
note_of-roll row inner = ap (Noted row.items) (row_of-items (hidden-the_row-Note-0 inner) ∙ ap notes_of (items_hidden-the_row-Note-0 inner))

pub note_of-out : (note : Note) → note_of note ≡ Noted (out-Note note).row.items (notes_of (out-Note note).below.items)
note_of-out note = ap note_of (sym (roll-out-Note note)) ∙ note_of-roll (out-Note note).row (out-Note note).below
