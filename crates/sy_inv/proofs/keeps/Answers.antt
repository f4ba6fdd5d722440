use Rattle.std.proofs.lemmas.Result.{IfOk-from_err}
use Rattle.sy_inv.proofs.keeps.Goals as goal

pub returns : goal.returns
returns g c =
    let made = c.binary-2.ensures in
    rw (c.in_ok-both.ensures, c.in_ok-before.ensures, c.in_ok-step.ensures, c.in_ok-after.ensures) at made

pub returns-in_err-before : goal.returns-in_err-before
returns-in_err-before g c = IfOk-from_err c.from_residual.result _ c.from_residual.ensures.0

pub returns-in_err-step : goal.returns-in_err-step
returns-in_err-step g c = IfOk-from_err c.from_residual-in_err-step.result _ c.from_residual-in_err-step.ensures.0

pub returns-in_err-both : goal.returns-in_err-both
returns-in_err-both g c = IfOk-from_err c.from_residual-in_err-both.result _ c.from_residual-in_err-both.ensures.0

pub returns-in_err-after : goal.returns-in_err-after
returns-in_err-after g c = IfOk-from_err c.from_residual-in_err-after.result _ c.from_residual-in_err-after.ensures.0
