use Rattle.std.proofs.Common.{◌∙◌, ap, bit_and, length}
use Rattle.std.proofs.lemmas.Result.{IfOk-from_err}
use Rattle.sy_gates.specs.Circuits.{word_number}
use Rattle.sy_bits_words.specs.Standing.{turned_number}
use Rattle.sy_bits_words.proofs.meets.meeting.Goals as goal

pub returns-clause-number : goal.returns-clause-number
returns-clause-number c = λ d v.
    (rw c.in-Some.is at c.in_ok-place.ensures.number) d v
    ∙ ap (λ n. bit_and n (word_number v c.as_slice-2.result.now)) (ap (word_number v) c.as_slice.ensures ∙ c.in_ok-first.ensures.value v)
    ∙ ap (λ n. bit_and (turned_number (length c.args.s.now) c.is_turned-left.result (word_number v c.args.s.now)) n) (ap (word_number v) c.as_slice-2.ensures ∙ c.in_ok-second.ensures.value v ∙ ap (λ w. turned_number w c.is_turned-right.result (word_number v c.args.t.now)) c.requires.same)

pub returns-in_err-first-clause-stand : goal.returns-in_err-first-clause-stand
returns-in_err-first-clause-stand c = IfOk-from_err c.from_residual.result _ c.from_residual.ensures.0

pub returns-in_err-first-clause-longer : goal.returns-in_err-first-clause-longer
returns-in_err-first-clause-longer c = IfOk-from_err c.from_residual.result _ c.from_residual.ensures.0

pub returns-in_err-first-clause-kept : goal.returns-in_err-first-clause-kept
returns-in_err-first-clause-kept c = IfOk-from_err c.from_residual.result _ c.from_residual.ensures.0

pub returns-in_err-first-clause-within : goal.returns-in_err-first-clause-within
returns-in_err-first-clause-within c = IfOk-from_err c.from_residual.result _ c.from_residual.ensures.0

pub returns-in_err-first-clause-number : goal.returns-in_err-first-clause-number
returns-in_err-first-clause-number c = IfOk-from_err c.from_residual.result _ c.from_residual.ensures.0

pub returns-in_err-second-clause-stand : goal.returns-in_err-second-clause-stand
returns-in_err-second-clause-stand c = IfOk-from_err c.from_residual-in_err-second.result _ c.from_residual-in_err-second.ensures.0

pub returns-in_err-second-clause-longer : goal.returns-in_err-second-clause-longer
returns-in_err-second-clause-longer c = IfOk-from_err c.from_residual-in_err-second.result _ c.from_residual-in_err-second.ensures.0

pub returns-in_err-second-clause-kept : goal.returns-in_err-second-clause-kept
returns-in_err-second-clause-kept c = IfOk-from_err c.from_residual-in_err-second.result _ c.from_residual-in_err-second.ensures.0

pub returns-in_err-second-clause-within : goal.returns-in_err-second-clause-within
returns-in_err-second-clause-within c = IfOk-from_err c.from_residual-in_err-second.result _ c.from_residual-in_err-second.ensures.0

pub returns-in_err-second-clause-number : goal.returns-in_err-second-clause-number
returns-in_err-second-clause-number c = IfOk-from_err c.from_residual-in_err-second.result _ c.from_residual-in_err-second.ensures.0

pub returns-in_err-place-clause-stand : goal.returns-in_err-place-clause-stand
returns-in_err-place-clause-stand c = IfOk-from_err c.from_residual-in_err-place.result _ c.from_residual-in_err-place.ensures.0

pub returns-in_err-place-clause-longer : goal.returns-in_err-place-clause-longer
returns-in_err-place-clause-longer c = IfOk-from_err c.from_residual-in_err-place.result _ c.from_residual-in_err-place.ensures.0

pub returns-in_err-place-clause-kept : goal.returns-in_err-place-clause-kept
returns-in_err-place-clause-kept c = IfOk-from_err c.from_residual-in_err-place.result _ c.from_residual-in_err-place.ensures.0

pub returns-in_err-place-clause-within : goal.returns-in_err-place-clause-within
returns-in_err-place-clause-within c = IfOk-from_err c.from_residual-in_err-place.result _ c.from_residual-in_err-place.ensures.0

pub returns-in_err-place-clause-number : goal.returns-in_err-place-clause-number
returns-in_err-place-clause-number c = IfOk-from_err c.from_residual-in_err-place.result _ c.from_residual-in_err-place.ensures.0
