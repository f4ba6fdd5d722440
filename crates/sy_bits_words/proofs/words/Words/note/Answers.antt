use Rattle.std.proofs.Common.{◌∙◌, subst, sym}
use Rattle.std.proofs.lemmas.List.{append-nil}
use Rattle.std.proofs.lemmas.Result.{IfOk-from_err}
use Rattle.sy_bits_words.specs.Standing.{StandsFor}
use Rattle.sy_bits_words.proofs.Tables.{all-noted}
use Rattle.sy_bits_words.proofs.words.Words.note.Goals as goal

pub returns : goal.returns
returns c = λ circuit stands all. all-noted circuit c.args.self.now c.push.new.self _ c.in_ok-push.ensures (subst (λ xs. StandsFor circuit c.args.self.now xs c.args.sum) (sym (c.in_ok-word.ensures.items ∙ append-nil c.args.word.now)) stands) all

pub returns-in_err-other : goal.returns-in_err-other
returns-in_err-other c = IfOk-from_err c.from_residual.result _ c.from_residual.ensures.0

pub returns-in_err-word : goal.returns-in_err-word
returns-in_err-word c = IfOk-from_err c.from_residual-in_err-word.result _ c.from_residual-in_err-word.ensures.0

pub returns-in_err-push : goal.returns-in_err-push
returns-in_err-push c = IfOk-from_err c.from_residual-in_err-push.result _ c.from_residual-in_err-push.ensures.0
