use Rattle.std.proofs.Common.{get_or}
use Rattle.std.proofs.lemmas.Result.{IfOk-from_err}
use Rattle.sy_bits_words.proofs.Tables.{place-turned}
use Rattle.sy_bits_words.proofs.words.Words.enter_both.Goals as goal

pub returns-clause-number : goal.returns-clause-number
returns-clause-number c = λ d v. place-turned v (get_or c.enter_pair-2.new.self c.in-Some-2.turned d) c.args.a.now c.args.b.now ((rw c.in-Some-2.is at c.in_ok-turned.ensures.word) d) ((rw c.in-Some-2.is at c.in_ok-turned.ensures.other) d)

pub returns-in_err-place-clause-stand : goal.returns-in_err-place-clause-stand
returns-in_err-place-clause-stand c = IfOk-from_err c.from_residual.result _ c.from_residual.ensures.0

pub returns-in_err-place-clause-longer : goal.returns-in_err-place-clause-longer
returns-in_err-place-clause-longer c = IfOk-from_err c.from_residual.result _ c.from_residual.ensures.0

pub returns-in_err-place-clause-kept : goal.returns-in_err-place-clause-kept
returns-in_err-place-clause-kept c = IfOk-from_err c.from_residual.result _ c.from_residual.ensures.0

pub returns-in_err-place-clause-within : goal.returns-in_err-place-clause-within
returns-in_err-place-clause-within c = IfOk-from_err c.from_residual.result _ c.from_residual.ensures.0

pub returns-in_err-place-clause-number : goal.returns-in_err-place-clause-number
returns-in_err-place-clause-number c = IfOk-from_err c.from_residual.result _ c.from_residual.ensures.0

pub returns-in_err-turned-clause-stand : goal.returns-in_err-turned-clause-stand
returns-in_err-turned-clause-stand c = IfOk-from_err c.from_residual-in_err-turned.result _ c.from_residual-in_err-turned.ensures.0

pub returns-in_err-turned-clause-longer : goal.returns-in_err-turned-clause-longer
returns-in_err-turned-clause-longer c = IfOk-from_err c.from_residual-in_err-turned.result _ c.from_residual-in_err-turned.ensures.0

pub returns-in_err-turned-clause-kept : goal.returns-in_err-turned-clause-kept
returns-in_err-turned-clause-kept c = IfOk-from_err c.from_residual-in_err-turned.result _ c.from_residual-in_err-turned.ensures.0

pub returns-in_err-turned-clause-within : goal.returns-in_err-turned-clause-within
returns-in_err-turned-clause-within c = IfOk-from_err c.from_residual-in_err-turned.result _ c.from_residual-in_err-turned.ensures.0

pub returns-in_err-turned-clause-number : goal.returns-in_err-turned-clause-number
returns-in_err-turned-clause-number c = IfOk-from_err c.from_residual-in_err-turned.result _ c.from_residual-in_err-turned.ensures.0
