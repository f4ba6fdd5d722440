use Rattle.std.proofs.Common.{◌∙◌, arith}
use Rattle.std.proofs.lemmas.List.{append-nil}
use Rattle.std.proofs.lemmas.Result.{IfOk-from_err}
use Rattle.sy_bits_words.proofs.Dividing.{stands-there, difference-is}
use Rattle.sy_bits_words.proofs.differences.above.Goals as goal

pub returns : goal.returns
returns c = λ circuit all.
    difference-is circuit c.args.words.now c.in-Some.first c.in_ok-second.second c.at-known.result.now.sum c.in_ok-total.total c.args.sum.now
    ((rw c.in-Some.is at c.in_ok-first.ensures.stands) circuit all)
    (stands-there circuit c.args.words.now c.args.place c.at-known.result.now c.in_ok-second.second all c.requires.place c.at-known.ensures (c.in_ok-second.ensures.items ∙ append-nil c.as_slice.result.now ∙ c.as_slice.ensures))
    (omega arith) c.in_ok-total.ensures.width c.in_ok-total.ensures.value

pub returns-in_err-total : goal.returns-in_err-total
returns-in_err-total c = IfOk-from_err c.from_residual.result _ c.from_residual.ensures.0

pub returns-in_err-first : goal.returns-in_err-first
returns-in_err-first c = IfOk-from_err c.from_residual-in_err-first.result _ c.from_residual-in_err-first.ensures.0

pub returns-in_err-second : goal.returns-in_err-second
returns-in_err-second c = IfOk-from_err c.from_residual-in_err-second.result _ c.from_residual-in_err-second.ensures.0
