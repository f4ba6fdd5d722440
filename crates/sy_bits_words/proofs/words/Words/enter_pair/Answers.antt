use Rattle.std.proofs.Common.{◌<◌, ◌∙◌, length}
use Rattle.std.proofs.lemmas.List.{append-nil}
use Rattle.std.proofs.lemmas.Result.{IfOk-from_err}
use Rattle.sy_bits_words.specs.declared.known.Known.{Known}
use Rattle.sy_bits_words.proofs.Tables.{all-noted, own-stands, kept-pushed}
use Rattle.sy_bits_words.proofs.words.Words.enter_pair.Goals as goal

pub returns-clause-stand : goal.returns-clause-stand
returns-clause-stand c = λ circuit inside all.
    let last : Known = record { word = c.in_ok-word.word; other = c.in_ok-other.other; sum = c.in_ok-sum.sum } in
    let h : c.in-Some-2.own < length c.enter.new.self = rw c.in-Some-2.is at c.in_ok-own.ensures.within in
    all-noted circuit c.enter.new.self c.push.new.self last c.in_ok-push.ensures
    (own-stands circuit c.enter.new.self c.in-Some-2.own c.args.word.now last h (rw c.in-Some-2.is at c.in_ok-own.ensures.same) (rw c.in-Some-2.is at c.in_ok-own.ensures.other) (c.in_ok-word.ensures.items ∙ append-nil c.args.word.now) c.in_ok-sum.ensures.width inside c.in_ok-sum.ensures.value)
    (c.in_ok-own.ensures.stand circuit inside all)

pub returns-clause-kept : goal.returns-clause-kept
returns-clause-kept c = kept-pushed c.args.self.now c.enter.new.self c.push.new.self _ c.in_ok-push.ensures c.in_ok-own.ensures.longer c.in_ok-own.ensures.kept

pub returns-in_err-own-clause-stand : goal.returns-in_err-own-clause-stand
returns-in_err-own-clause-stand c = IfOk-from_err c.from_residual.result _ c.from_residual.ensures.0

pub returns-in_err-own-clause-longer : goal.returns-in_err-own-clause-longer
returns-in_err-own-clause-longer c = IfOk-from_err c.from_residual.result _ c.from_residual.ensures.0

pub returns-in_err-own-clause-kept : goal.returns-in_err-own-clause-kept
returns-in_err-own-clause-kept c = IfOk-from_err c.from_residual.result _ c.from_residual.ensures.0

pub returns-in_err-own-clause-within : goal.returns-in_err-own-clause-within
returns-in_err-own-clause-within c = IfOk-from_err c.from_residual.result _ c.from_residual.ensures.0

pub returns-in_err-own-clause-word : goal.returns-in_err-own-clause-word
returns-in_err-own-clause-word c = IfOk-from_err c.from_residual.result _ c.from_residual.ensures.0

pub returns-in_err-own-clause-other : goal.returns-in_err-own-clause-other
returns-in_err-own-clause-other c = IfOk-from_err c.from_residual.result _ c.from_residual.ensures.0

pub returns-in_err-sum-clause-stand : goal.returns-in_err-sum-clause-stand
returns-in_err-sum-clause-stand c = IfOk-from_err c.from_residual-in_err-sum.result _ c.from_residual-in_err-sum.ensures.0

pub returns-in_err-sum-clause-longer : goal.returns-in_err-sum-clause-longer
returns-in_err-sum-clause-longer c = IfOk-from_err c.from_residual-in_err-sum.result _ c.from_residual-in_err-sum.ensures.0

pub returns-in_err-sum-clause-kept : goal.returns-in_err-sum-clause-kept
returns-in_err-sum-clause-kept c = IfOk-from_err c.from_residual-in_err-sum.result _ c.from_residual-in_err-sum.ensures.0

pub returns-in_err-sum-clause-within : goal.returns-in_err-sum-clause-within
returns-in_err-sum-clause-within c = IfOk-from_err c.from_residual-in_err-sum.result _ c.from_residual-in_err-sum.ensures.0

pub returns-in_err-sum-clause-word : goal.returns-in_err-sum-clause-word
returns-in_err-sum-clause-word c = IfOk-from_err c.from_residual-in_err-sum.result _ c.from_residual-in_err-sum.ensures.0

pub returns-in_err-sum-clause-other : goal.returns-in_err-sum-clause-other
returns-in_err-sum-clause-other c = IfOk-from_err c.from_residual-in_err-sum.result _ c.from_residual-in_err-sum.ensures.0

pub returns-in_err-other-clause-stand : goal.returns-in_err-other-clause-stand
returns-in_err-other-clause-stand c = IfOk-from_err c.from_residual-in_err-other.result _ c.from_residual-in_err-other.ensures.0

pub returns-in_err-other-clause-longer : goal.returns-in_err-other-clause-longer
returns-in_err-other-clause-longer c = IfOk-from_err c.from_residual-in_err-other.result _ c.from_residual-in_err-other.ensures.0

pub returns-in_err-other-clause-kept : goal.returns-in_err-other-clause-kept
returns-in_err-other-clause-kept c = IfOk-from_err c.from_residual-in_err-other.result _ c.from_residual-in_err-other.ensures.0

pub returns-in_err-other-clause-within : goal.returns-in_err-other-clause-within
returns-in_err-other-clause-within c = IfOk-from_err c.from_residual-in_err-other.result _ c.from_residual-in_err-other.ensures.0

pub returns-in_err-other-clause-word : goal.returns-in_err-other-clause-word
returns-in_err-other-clause-word c = IfOk-from_err c.from_residual-in_err-other.result _ c.from_residual-in_err-other.ensures.0

pub returns-in_err-other-clause-other : goal.returns-in_err-other-clause-other
returns-in_err-other-clause-other c = IfOk-from_err c.from_residual-in_err-other.result _ c.from_residual-in_err-other.ensures.0

pub returns-in_err-word-clause-stand : goal.returns-in_err-word-clause-stand
returns-in_err-word-clause-stand c = IfOk-from_err c.from_residual-in_err-word.result _ c.from_residual-in_err-word.ensures.0

pub returns-in_err-word-clause-longer : goal.returns-in_err-word-clause-longer
returns-in_err-word-clause-longer c = IfOk-from_err c.from_residual-in_err-word.result _ c.from_residual-in_err-word.ensures.0

pub returns-in_err-word-clause-kept : goal.returns-in_err-word-clause-kept
returns-in_err-word-clause-kept c = IfOk-from_err c.from_residual-in_err-word.result _ c.from_residual-in_err-word.ensures.0

pub returns-in_err-word-clause-within : goal.returns-in_err-word-clause-within
returns-in_err-word-clause-within c = IfOk-from_err c.from_residual-in_err-word.result _ c.from_residual-in_err-word.ensures.0

pub returns-in_err-word-clause-word : goal.returns-in_err-word-clause-word
returns-in_err-word-clause-word c = IfOk-from_err c.from_residual-in_err-word.result _ c.from_residual-in_err-word.ensures.0

pub returns-in_err-word-clause-other : goal.returns-in_err-word-clause-other
returns-in_err-word-clause-other c = IfOk-from_err c.from_residual-in_err-word.result _ c.from_residual-in_err-word.ensures.0

pub returns-in_err-push-clause-stand : goal.returns-in_err-push-clause-stand
returns-in_err-push-clause-stand c = IfOk-from_err c.from_residual-in_err-push.result _ c.from_residual-in_err-push.ensures.0

pub returns-in_err-push-clause-longer : goal.returns-in_err-push-clause-longer
returns-in_err-push-clause-longer c = IfOk-from_err c.from_residual-in_err-push.result _ c.from_residual-in_err-push.ensures.0

pub returns-in_err-push-clause-kept : goal.returns-in_err-push-clause-kept
returns-in_err-push-clause-kept c = IfOk-from_err c.from_residual-in_err-push.result _ c.from_residual-in_err-push.ensures.0

pub returns-in_err-push-clause-within : goal.returns-in_err-push-clause-within
returns-in_err-push-clause-within c = IfOk-from_err c.from_residual-in_err-push.result _ c.from_residual-in_err-push.ensures.0

pub returns-in_err-push-clause-word : goal.returns-in_err-push-clause-word
returns-in_err-push-clause-word c = IfOk-from_err c.from_residual-in_err-push.result _ c.from_residual-in_err-push.ensures.0

pub returns-in_err-push-clause-other : goal.returns-in_err-push-clause-other
returns-in_err-push-clause-other c = IfOk-from_err c.from_residual-in_err-push.result _ c.from_residual-in_err-push.ensures.0
