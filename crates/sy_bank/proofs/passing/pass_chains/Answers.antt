use Rattle.std.proofs.Common.{sym}
use Rattle.std.proofs.lemmas.Result.{IfOk-from_err}
use Rattle.sy_bank.proofs.passing.pass_chains.Goals as goal

pub returns-then-filling-before-clause-done : goal.returns-then-filling-before-clause-done
returns-then-filling-before-clause-done g c = c.in_ok-pass_all.ensures.done (sym c.if-filling-before.true)

pub returns-in_err-pass_all-clause-steady : goal.returns-in_err-pass_all-clause-steady
returns-in_err-pass_all-clause-steady g c = IfOk-from_err c.from_residual.result _ c.from_residual.ensures.0

pub returns-in_err-pass_all-clause-grows : goal.returns-in_err-pass_all-clause-grows
returns-in_err-pass_all-clause-grows g c = IfOk-from_err c.from_residual.result _ c.from_residual.ensures.0

pub returns-in_err-pass_all-clause-done : goal.returns-in_err-pass_all-clause-done
returns-in_err-pass_all-clause-done g c = IfOk-from_err c.from_residual.result _ c.from_residual.ensures.0
