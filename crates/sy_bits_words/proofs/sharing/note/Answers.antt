use Rattle.std.proofs.lemmas.Result.{IfOk-from_err}
use Rattle.sy_bits_words.proofs.sharing.note.Goals as goal

pub returns-in_err-note-in-Vector : goal.returns-in_err-note-in-Vector
returns-in_err-note-in-Vector c = IfOk-from_err c.from_residual.result _ c.from_residual.ensures.0
