use Rattle.std.proofs.lemmas.Result.{IfOk-from_err}
use Rattle.sy_bits_words.proofs.known.turned_word.Goals as goal

pub returns-in_err-word-clause-width : goal.returns-in_err-word-clause-width
returns-in_err-word-clause-width c = IfOk-from_err c.from_residual.result _ c.from_residual.ensures.0

pub returns-in_err-word-clause-bound : goal.returns-in_err-word-clause-bound
returns-in_err-word-clause-bound c = IfOk-from_err c.from_residual.result _ c.from_residual.ensures.0

pub returns-in_err-word-clause-value : goal.returns-in_err-word-clause-value
returns-in_err-word-clause-value c = IfOk-from_err c.from_residual.result _ c.from_residual.ensures.0

pub returns-in_err-word-2-clause-width : goal.returns-in_err-word-2-clause-width
returns-in_err-word-2-clause-width c = IfOk-from_err c.from_residual-in_err-word-2.result _ c.from_residual-in_err-word-2.ensures.0

pub returns-in_err-word-2-clause-bound : goal.returns-in_err-word-2-clause-bound
returns-in_err-word-2-clause-bound c = IfOk-from_err c.from_residual-in_err-word-2.result _ c.from_residual-in_err-word-2.ensures.0

pub returns-in_err-word-2-clause-value : goal.returns-in_err-word-2-clause-value
returns-in_err-word-2-clause-value c = IfOk-from_err c.from_residual-in_err-word-2.result _ c.from_residual-in_err-word-2.ensures.0
