use Rattle.std.proofs.lemmas.Result.{IfOk-from_err}
use Rattle.sy_bits_words.specs.Standing.{StandsFor, AllStand, IsSumOf}
use Rattle.sy_bits_words.proofs.Tables.{all-grown}
use Rattle.sy_bits_words.proofs.Laws.{serves, made-stands}
use Rattle.sy_bits_words.proofs.sharing.summed.Goals as goal

pub unsummed-requires-clause-stand : goal.unsummed-requires-clause-stand
unsummed-requires-clause-stand c = c.in_ok-sum.ensures.stand c.args.circuit.now c.requires.inside c.requires.stand

pub made_of_sum-requires-clause-stand : goal.made_of_sum-requires-clause-stand
made_of_sum-requires-clause-stand c = c.in_ok-sum.ensures.stand c.args.circuit.now c.requires.inside c.requires.stand

pub made_of_sum-requires-clause-is : goal.made_of_sum-requires-clause-is
made_of_sum-requires-clause-is c = (rw c.in-Some.is at c.in_ok-sum.ensures.sum) c.args.circuit.now (c.in_ok-sum.ensures.stand c.args.circuit.now c.requires.inside c.requires.stand)

pub returns-in_default-clause-inside : goal.returns-in_default-clause-inside
returns-in_default-clause-inside c = c.in_ok-signal.ensures.serves.inside

pub returns-in_default-clause-sort : goal.returns-in_default-clause-sort
returns-in_default-clause-sort c = c.in_ok-signal.ensures.serves.sort

pub returns-in_default-clause-value : goal.returns-in_default-clause-value
returns-in_default-clause-value c = c.in_ok-signal.ensures.serves.value

pub returns-clause-inside : goal.returns-clause-inside
returns-clause-inside c = c.in_ok-signal-2.ensures.serves.inside

pub returns-clause-sort : goal.returns-clause-sort
returns-clause-sort c = c.in_ok-signal-2.ensures.serves.sort

pub returns-clause-value : goal.returns-clause-value
returns-clause-value c = c.in_ok-signal-2.ensures.serves.value

pub returns-in-Some-2-clause-sort : goal.returns-in-Some-2-clause-sort
returns-in-Some-2-clause-sort c =
    let all : AllStand c.args.circuit.now c.sum_of.new.words = c.in_ok-sum.ensures.stand c.args.circuit.now c.requires.inside c.requires.stand in
    let is : IsSumOf c.args.circuit.now c.sum_of.new.words c.args.op.now c.args.args.now c.in-Some.sum = (rw c.in-Some.is at c.in_ok-sum.ensures.sum) c.args.circuit.now all in
    let stands : StandsFor c.args.circuit.now c.sum_of.new.words c.in-Some-2.word c.in-Some.sum = (rw c.in-Some-2.is at c.in_ok-word.ensures.stands) c.args.circuit.now all in
    (serves c.args.circuit.now c.sum_of.new.words c.args.op.now c.args.args.now c.in-Some.sum c.in-Some-2.word is stands).sort

pub returns-in-Some-2-clause-value : goal.returns-in-Some-2-clause-value
returns-in-Some-2-clause-value c =
    let all : AllStand c.args.circuit.now c.sum_of.new.words = c.in_ok-sum.ensures.stand c.args.circuit.now c.requires.inside c.requires.stand in
    let is : IsSumOf c.args.circuit.now c.sum_of.new.words c.args.op.now c.args.args.now c.in-Some.sum = (rw c.in-Some.is at c.in_ok-sum.ensures.sum) c.args.circuit.now all in
    let stands : StandsFor c.args.circuit.now c.sum_of.new.words c.in-Some-2.word c.in-Some.sum = (rw c.in-Some-2.is at c.in_ok-word.ensures.stands) c.args.circuit.now all in
    (serves c.args.circuit.now c.sum_of.new.words c.args.op.now c.args.args.now c.in-Some.sum c.in-Some-2.word is stands).value

pub returns-clause-stand : goal.returns-clause-stand
returns-clause-stand c =
    let all : AllStand c.args.circuit.now c.sum_of.new.words = c.in_ok-sum.ensures.stand c.args.circuit.now c.requires.inside c.requires.stand in
    let is : IsSumOf c.args.circuit.now c.sum_of.new.words c.args.op.now c.args.args.now c.in-Some.sum = (rw c.in-Some.is at c.in_ok-sum.ensures.sum) c.args.circuit.now all in
    c.in_ok-note.ensures c.made_of_sum.new.circuit
    (made-stands c.args.circuit.now c.made_of_sum.new.circuit c.sum_of.new.words c.args.op.now c.args.args.now c.in-Some.sum c.in_ok-signal-2.signal is c.in_ok-signal-2.ensures.grown c.in_ok-signal-2.ensures.serves.inside c.in_ok-signal-2.ensures.serves.sort c.in_ok-signal-2.ensures.serves.value)
    (all-grown c.args.circuit.now c.made_of_sum.new.circuit c.sum_of.new.words c.in_ok-signal-2.ensures.grown all)

pub returns-in_err-sum-clause-stand : goal.returns-in_err-sum-clause-stand
returns-in_err-sum-clause-stand c = IfOk-from_err c.from_residual.result _ c.from_residual.ensures.0

pub returns-in_err-sum-clause-cost : goal.returns-in_err-sum-clause-cost
returns-in_err-sum-clause-cost c = IfOk-from_err c.from_residual.result _ c.from_residual.ensures.0

pub returns-in_err-sum-clause-inside : goal.returns-in_err-sum-clause-inside
returns-in_err-sum-clause-inside c = IfOk-from_err c.from_residual.result _ c.from_residual.ensures.0

pub returns-in_err-sum-clause-sort : goal.returns-in_err-sum-clause-sort
returns-in_err-sum-clause-sort c = IfOk-from_err c.from_residual.result _ c.from_residual.ensures.0

pub returns-in_err-sum-clause-value : goal.returns-in_err-sum-clause-value
returns-in_err-sum-clause-value c = IfOk-from_err c.from_residual.result _ c.from_residual.ensures.0

pub returns-in_err-signal-clause-stand : goal.returns-in_err-signal-clause-stand
returns-in_err-signal-clause-stand c = IfOk-from_err c.from_residual-in_err-signal.result _ c.from_residual-in_err-signal.ensures.0

pub returns-in_err-signal-clause-cost : goal.returns-in_err-signal-clause-cost
returns-in_err-signal-clause-cost c = IfOk-from_err c.from_residual-in_err-signal.result _ c.from_residual-in_err-signal.ensures.0

pub returns-in_err-signal-clause-inside : goal.returns-in_err-signal-clause-inside
returns-in_err-signal-clause-inside c = IfOk-from_err c.from_residual-in_err-signal.result _ c.from_residual-in_err-signal.ensures.0

pub returns-in_err-signal-clause-sort : goal.returns-in_err-signal-clause-sort
returns-in_err-signal-clause-sort c = IfOk-from_err c.from_residual-in_err-signal.result _ c.from_residual-in_err-signal.ensures.0

pub returns-in_err-signal-clause-value : goal.returns-in_err-signal-clause-value
returns-in_err-signal-clause-value c = IfOk-from_err c.from_residual-in_err-signal.result _ c.from_residual-in_err-signal.ensures.0

pub returns-in_err-word-clause-stand : goal.returns-in_err-word-clause-stand
returns-in_err-word-clause-stand c = IfOk-from_err c.from_residual-in_err-word.result _ c.from_residual-in_err-word.ensures.0

pub returns-in_err-word-clause-cost : goal.returns-in_err-word-clause-cost
returns-in_err-word-clause-cost c = IfOk-from_err c.from_residual-in_err-word.result _ c.from_residual-in_err-word.ensures.0

pub returns-in_err-word-clause-inside : goal.returns-in_err-word-clause-inside
returns-in_err-word-clause-inside c = IfOk-from_err c.from_residual-in_err-word.result _ c.from_residual-in_err-word.ensures.0

pub returns-in_err-word-clause-sort : goal.returns-in_err-word-clause-sort
returns-in_err-word-clause-sort c = IfOk-from_err c.from_residual-in_err-word.result _ c.from_residual-in_err-word.ensures.0

pub returns-in_err-word-clause-value : goal.returns-in_err-word-clause-value
returns-in_err-word-clause-value c = IfOk-from_err c.from_residual-in_err-word.result _ c.from_residual-in_err-word.ensures.0

pub returns-in_err-signal-2-clause-stand : goal.returns-in_err-signal-2-clause-stand
returns-in_err-signal-2-clause-stand c = IfOk-from_err c.from_residual-in_err-signal-2.result _ c.from_residual-in_err-signal-2.ensures.0

pub returns-in_err-signal-2-clause-cost : goal.returns-in_err-signal-2-clause-cost
returns-in_err-signal-2-clause-cost c = IfOk-from_err c.from_residual-in_err-signal-2.result _ c.from_residual-in_err-signal-2.ensures.0

pub returns-in_err-signal-2-clause-inside : goal.returns-in_err-signal-2-clause-inside
returns-in_err-signal-2-clause-inside c = IfOk-from_err c.from_residual-in_err-signal-2.result _ c.from_residual-in_err-signal-2.ensures.0

pub returns-in_err-signal-2-clause-sort : goal.returns-in_err-signal-2-clause-sort
returns-in_err-signal-2-clause-sort c = IfOk-from_err c.from_residual-in_err-signal-2.result _ c.from_residual-in_err-signal-2.ensures.0

pub returns-in_err-signal-2-clause-value : goal.returns-in_err-signal-2-clause-value
returns-in_err-signal-2-clause-value c = IfOk-from_err c.from_residual-in_err-signal-2.result _ c.from_residual-in_err-signal-2.ensures.0

pub returns-in_err-note-clause-stand : goal.returns-in_err-note-clause-stand
returns-in_err-note-clause-stand c = IfOk-from_err c.from_residual-in_err-note.result _ c.from_residual-in_err-note.ensures.0

pub returns-in_err-note-clause-cost : goal.returns-in_err-note-clause-cost
returns-in_err-note-clause-cost c = IfOk-from_err c.from_residual-in_err-note.result _ c.from_residual-in_err-note.ensures.0

pub returns-in_err-note-clause-inside : goal.returns-in_err-note-clause-inside
returns-in_err-note-clause-inside c = IfOk-from_err c.from_residual-in_err-note.result _ c.from_residual-in_err-note.ensures.0

pub returns-in_err-note-clause-sort : goal.returns-in_err-note-clause-sort
returns-in_err-note-clause-sort c = IfOk-from_err c.from_residual-in_err-note.result _ c.from_residual-in_err-note.ensures.0

pub returns-in_err-note-clause-value : goal.returns-in_err-note-clause-value
returns-in_err-note-clause-value c = IfOk-from_err c.from_residual-in_err-note.result _ c.from_residual-in_err-note.ensures.0
