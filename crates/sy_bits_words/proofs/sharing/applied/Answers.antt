use Rattle.std.proofs.Common.{◌∙◌, ap}
use Rattle.std.proofs.lemmas.Result.{IfOk-from_err}
use Rattle.sy_terms.specs.Operators.{op_value}
use Rattle.sy_terms.specs.Theories.{sort_of_value}
use Rattle.sy_bits_operators.specs.Signals.{signal_values}
use Rattle.sy_bits_words.proofs.Tables.{all-grown}
use Rattle.sy_bits_words.proofs.sharing.applied.Goals as goal

pub returns-in_ok-signal-in-Some-clause-stand : goal.returns-in_ok-signal-in-Some-clause-stand
returns-in_ok-signal-in-Some-clause-stand c = all-grown c.args.circuit.now c.applied.new.circuit c.sides_of.new.words c.in_ok-signal-in-Some.ensures.grown (c.in_ok-sides.ensures.stand c.args.circuit.now c.requires.inside c.requires.stand)

pub returns-in_ok-signal-in-Some-clause-sort : goal.returns-in_ok-signal-in-Some-clause-sort
returns-in_ok-signal-in-Some-clause-sort c = λ v.
    let e = (rw c.in-Some.is at c.in_ok-sides.ensures.value) c.args.circuit.now (c.in_ok-sides.ensures.stand c.args.circuit.now c.requires.inside c.requires.stand) in
    c.in_ok-signal-in-Some.ensures.sort v ∙ ap (λ xs. sort_of_value (op_value c.args.op.now (signal_values v xs))) c.as_slice.ensures.value ∙ e.sort v

pub returns-in_err-sides-clause-stand : goal.returns-in_err-sides-clause-stand
returns-in_err-sides-clause-stand c = IfOk-from_err c.from_residual.result _ c.from_residual.ensures.0

pub returns-in_err-sides-clause-cost : goal.returns-in_err-sides-clause-cost
returns-in_err-sides-clause-cost c = IfOk-from_err c.from_residual.result _ c.from_residual.ensures.0

pub returns-in_err-sides-clause-inside : goal.returns-in_err-sides-clause-inside
returns-in_err-sides-clause-inside c = IfOk-from_err c.from_residual.result _ c.from_residual.ensures.0

pub returns-in_err-sides-clause-sort : goal.returns-in_err-sides-clause-sort
returns-in_err-sides-clause-sort c = IfOk-from_err c.from_residual.result _ c.from_residual.ensures.0

pub returns-in_err-sides-clause-value : goal.returns-in_err-sides-clause-value
returns-in_err-sides-clause-value c = IfOk-from_err c.from_residual.result _ c.from_residual.ensures.0

pub returns-in_err-signal-in-Some-clause-stand : goal.returns-in_err-signal-in-Some-clause-stand
returns-in_err-signal-in-Some-clause-stand c = IfOk-from_err c.from_residual-in_err-signal-in-Some.result _ c.from_residual-in_err-signal-in-Some.ensures.0

pub returns-in_err-signal-in-Some-clause-cost : goal.returns-in_err-signal-in-Some-clause-cost
returns-in_err-signal-in-Some-clause-cost c = IfOk-from_err c.from_residual-in_err-signal-in-Some.result _ c.from_residual-in_err-signal-in-Some.ensures.0

pub returns-in_err-signal-in-Some-clause-inside : goal.returns-in_err-signal-in-Some-clause-inside
returns-in_err-signal-in-Some-clause-inside c = IfOk-from_err c.from_residual-in_err-signal-in-Some.result _ c.from_residual-in_err-signal-in-Some.ensures.0

pub returns-in_err-signal-in-Some-clause-sort : goal.returns-in_err-signal-in-Some-clause-sort
returns-in_err-signal-in-Some-clause-sort c = IfOk-from_err c.from_residual-in_err-signal-in-Some.result _ c.from_residual-in_err-signal-in-Some.ensures.0

pub returns-in_err-signal-in-Some-clause-value : goal.returns-in_err-signal-in-Some-clause-value
returns-in_err-signal-in-Some-clause-value c = IfOk-from_err c.from_residual-in_err-signal-in-Some.result _ c.from_residual-in_err-signal-in-Some.ensures.0

pub returns-in_err-signal-in-None-clause-stand : goal.returns-in_err-signal-in-None-clause-stand
returns-in_err-signal-in-None-clause-stand c = IfOk-from_err c.from_residual-in_err-signal-in-None.result _ c.from_residual-in_err-signal-in-None.ensures.0

pub returns-in_err-signal-in-None-clause-cost : goal.returns-in_err-signal-in-None-clause-cost
returns-in_err-signal-in-None-clause-cost c = IfOk-from_err c.from_residual-in_err-signal-in-None.result _ c.from_residual-in_err-signal-in-None.ensures.0

pub returns-in_err-signal-in-None-clause-inside : goal.returns-in_err-signal-in-None-clause-inside
returns-in_err-signal-in-None-clause-inside c = IfOk-from_err c.from_residual-in_err-signal-in-None.result _ c.from_residual-in_err-signal-in-None.ensures.0

pub returns-in_err-signal-in-None-clause-sort : goal.returns-in_err-signal-in-None-clause-sort
returns-in_err-signal-in-None-clause-sort c = IfOk-from_err c.from_residual-in_err-signal-in-None.result _ c.from_residual-in_err-signal-in-None.ensures.0

pub returns-in_err-signal-in-None-clause-value : goal.returns-in_err-signal-in-None-clause-value
returns-in_err-signal-in-None-clause-value c = IfOk-from_err c.from_residual-in_err-signal-in-None.result _ c.from_residual-in_err-signal-in-None.ensures.0
