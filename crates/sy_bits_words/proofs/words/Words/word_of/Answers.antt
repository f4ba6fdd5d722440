use Rattle.std.proofs.lemmas.Result.{IfOk-from_err}
use Rattle.sy_bits_words.proofs.words.Words.word_of.Goals as goal

pub returns-in_err-word-clause-stands : goal.returns-in_err-word-clause-stands
returns-in_err-word-clause-stands c = IfOk-from_err c.from_residual.result _ c.from_residual.ensures.0

pub returns-in_err-word-2-clause-stands : goal.returns-in_err-word-2-clause-stands
returns-in_err-word-2-clause-stands c = IfOk-from_err c.from_residual-in_err-word-2.result _ c.from_residual-in_err-word-2.ensures.0
